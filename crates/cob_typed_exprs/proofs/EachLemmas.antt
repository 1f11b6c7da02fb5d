-- Loops that judge one element after another.
use Rattle.std.proofs.Common.{◌≡◌, ℕ, ◌+◌, ◌<◌, ◌≤◌, List, [], ◌∷◌, ◌++◌, append_assoc, append-nil, length, get_or, drop, map, refl, sym, ap, ◌∙◌}
use Rattle.std.proofs.lemmas.List.{drop_all}
use Rattle.cob_typed_exprs.specs.declared.finding.Finding.{Finding}
use Rattle.cob_typed_exprs.specs.Judged.{Judged, both, each_of, noted}
use Rattle.cob_program.proofs.Loops.{item_step}

module _ {A B : Type 0} (judge : A → Judged B) (xs : List A) where
  pub each_noted : (i line : ℕ) (x : A) (old new whole : List Finding) → i < length xs → x ≡ get_or xs i x → new ≡ noted line old (judge x).broken →
      noted line old (each_of judge (drop i xs)).broken ≡ whole → noted line new (each_of judge (drop (i + 1) xs)).broken ≡ whole
  each_noted i line x old new whole within is made so_far =
      ap (λ fs. noted line fs (each_of judge (drop (i + 1) xs)).broken) made
      ∙ sym (ap (λ ys. noted line old (each_of judge ys).broken) (item_step xs i x within is)) ∙ so_far

  pub each_noted_end : (i line : ℕ) (old whole : List Finding) → length xs ≤ i → noted line old (each_of judge (drop i xs)).broken ≡ whole → old ≡ whole
  each_noted_end i line old whole past so_far = sym (ap (λ ys. noted line old (each_of judge ys).broken) (drop_all i xs past)) ∙ so_far

  -- values, each seen in some way
  module _ {C : Type 0} (view : B → C) where
    pub each_value : (i : ℕ) (x : A) (old new whole : List C) (v : C) → i < length xs → x ≡ get_or xs i x → v ≡ view (judge x).value → new ≡ old ++ v ∷ [] →
        old ++ map view (each_of judge (drop i xs)).value ≡ whole → new ++ map view (each_of judge (drop (i + 1) xs)).value ≡ whole
    each_value i x old new whole v within is seen made so_far =
        let rest = map view (each_of judge (drop (i + 1) xs)).value in
        ap (λ ys. ys ++ rest) made ∙ append_assoc old (v ∷ []) rest ∙ ap (λ y. old ++ y ∷ rest) seen
        ∙ sym (ap (λ ys. old ++ map view (each_of judge ys).value) (item_step xs i x within is)) ∙ so_far

    pub each_value_end : (i : ℕ) (old whole : List C) → length xs ≤ i → old ++ map view (each_of judge (drop i xs)).value ≡ whole → old ≡ whole
    each_value_end i old whole past so_far = sym (ap (λ ys. old ++ map view (each_of judge ys).value) (drop_all i xs past) ∙ append-nil old) ∙ so_far

pub map_same : {A : Type 0} (xs : List A) → map (λ x. x) xs ≡ xs
map_same [] = refl
map_same (x ∷ xs) = ap (λ ys. x ∷ ys) (map_same xs)

pub map_more : {A B : Type 0} (f : A → B) (old new : List A) (x : A) → new ≡ old ++ x ∷ [] → map f new ≡ map f old ++ f x ∷ []
map_more f old new x made = ap (map f) made ∙ pushed_at f old x
  where
    pushed_at : {A B : Type 0} (f : A → B) (xs : List A) (x : A) → map f (xs ++ x ∷ []) ≡ map f xs ++ f x ∷ []
    pushed_at f [] x = refl
    pushed_at f (y ∷ ys) x = ap (λ zs. f y ∷ zs) (pushed_at f ys x)

pub each_map : {A B C : Type 0} (f : A → C) (judge : C → Judged B) (xs : List A) → each_of judge (map f xs) ≡ each_of (λ x. judge (f x)) xs
each_map f judge [] = refl
each_map f judge (x ∷ xs) = ap (λ j. record { value = (judge (f x)).value ∷ j.value; broken = both (judge (f x)).broken j.broken }) (each_map f judge xs)
