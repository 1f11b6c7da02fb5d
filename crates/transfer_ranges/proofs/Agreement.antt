-- What a sum is worth rests on its items alone.
use Rattle.std.proofs.Common.{◌≡◌, ℕ, true, List, [], ◌∷◌, ◌++◌, Option, Some, None, pos, refl, ap, ◌∙◌}
use Rattle.std.specs.Prelude.{is_some, unwrap_or}
use Rattle.dec_num.specs.declared.types.Scaled.{Scaled}
use Rattle.cob_data.specs.declared.layout.Layout.{Layout}
use Rattle.cob_program.specs.Sum.{Sum, MkSum, Parts, no_parts, more_parts, MkPart, Factors, no_factors, more_factors, MkFactor, Atom, item, number, group}
use Rattle.cob_program.specs.Values.{whole_number, negated, plus, with_factor, ◌>>=◌, sum_value, sum_from, part_value, product_from, atom_value}
use Rattle.cob_program.proofs.Steps.{both}
use Rattle.cob_runs.specs.Contents.{number_at}
use Rattle.cob_runs.specs.Computing.{items_in, items_in_parts, items_in_factors, items_in_atom, are_numeric, worth}

pub bind_same : {A B : Type 0} (x y : Option A) (f g : A → Option B) → x ≡ y → ((a : A) → f a ≡ g a) → (x >>= f) ≡ (y >>= g)
bind_same None y f g e h = ap (λ o. o >>= g) e
bind_same (Some a) y f g e h = h a ∙ ap (λ o. o >>= g) e

module _ (f g : ℕ → Scaled) where
  -- the same on each of these items
  abbrev pub Agree : List ℕ → Type 0
  Agree [] = Unit {0}
  Agree (p ∷ ps) = (f p ≡ g p) × Agree ps

  pub agree_front : (xs ys : List ℕ) → Agree (xs ++ ys) → Agree xs
  agree_front [] ys h = tt
  agree_front (x ∷ xs) ys h = (h.0, agree_front xs ys h.1)

  pub agree_back : (xs ys : List ℕ) → Agree (xs ++ ys) → Agree ys
  agree_back [] ys h = h
  agree_back (x ∷ xs) ys h = agree_back xs ys h.1

  mutual
    pub same_sum : (s : Sum) → Agree (items_in s) → sum_value f s ≡ sum_value g s
    same_sum (MkSum ps) h = same_sum_from ps (whole_number (pos 0)) h

    same_sum_from : (ps : Parts) (a : Scaled) → Agree (items_in_parts ps) → sum_from f a ps ≡ sum_from g a ps
    same_sum_from no_parts a h = refl
    same_sum_from (more_parts (MkPart minus fs) ps) a h =
        bind_same (part_value f (MkPart minus fs)) (part_value g (MkPart minus fs)) (λ b. sum_from f (plus a b) ps) (λ b. sum_from g (plus a b) ps)
        (ap (λ o. o >>= λ b. Some (negated minus b)) (same_product fs (whole_number (pos 1)) (agree_front (items_in_factors fs) (items_in_parts ps) h)))
        (λ b. same_sum_from ps (plus a b) (agree_back (items_in_factors fs) (items_in_parts ps) h))

    pub same_product : (fs : Factors) (a : Scaled) → Agree (items_in_factors fs) → product_from f a fs ≡ product_from g a fs
    same_product no_factors a h = refl
    same_product (more_factors (MkFactor over minus atom) fs) a h =
        bind_same (atom_value f atom) (atom_value g atom) (λ b. with_factor over a (negated minus b) >>= λ c. product_from f c fs) (λ b. with_factor over a (negated minus b) >>= λ c. product_from g c fs)
        (same_atom atom (agree_front (items_in_atom atom) (items_in_factors fs) h))
        (λ b. bind_same (with_factor over a (negated minus b)) (with_factor over a (negated minus b)) (λ c. product_from f c fs) (λ c. product_from g c fs) refl
        (λ c. same_product fs c (agree_back (items_in_atom atom) (items_in_factors fs) h)))

    pub same_atom : (a : Atom) → Agree (items_in_atom a) → atom_value f a ≡ atom_value g a
    same_atom (item place) h = ap Some h.0
    same_atom (number n) h = refl
    same_atom (group s) h = same_sum s h

-- ---- items that are numeric have a number, whatever stands for the others

module _ (l : Layout) (storage : List ℕ) (other : ℕ → Scaled) where
  same_number : (o : Option Scaled) (a b : Scaled) → is_some o ≡ true → unwrap_or o a ≡ unwrap_or o b
  same_number None a b e = absurd cc
  same_number (Some v) a b e = refl

  pub numeric_agree : (places : List ℕ) → are_numeric l storage places ≡ true → Agree (worth l storage) (λ place. unwrap_or (number_at l storage place) (other place)) places
  numeric_agree [] e = tt
  numeric_agree (p ∷ ps) e =
      let k = both (is_some (number_at l storage p)) (are_numeric l storage ps) e in
      (same_number (number_at l storage p) (whole_number (pos 0)) (other p) k.0, numeric_agree ps k.1)

  pub numeric_sum : (s : Sum) → are_numeric l storage (items_in s) ≡ true → sum_value (worth l storage) s ≡ sum_value (λ place. unwrap_or (number_at l storage place) (other place)) s
  numeric_sum s e = same_sum (worth l storage) (λ place. unwrap_or (number_at l storage place) (other place)) s (numeric_agree (items_in s) e)
