-- Lists that are made number by number.
use Rattle.std.proofs.Common.{◌≡◌, ℕ, zero, suc, ◌+◌, ◌≤◌, ◌<◌, List, [], ◌∷◌, ◌++◌, map, Bool, true, refl, sym, ap, subst, inl, inr, ◌⊎◌, arith}
use Rattle.std.specs.List.{Contains, flat_map, list_all, range_with_len}
use Rattle.std.proofs.lemmas.Bool.{and_parts}
use Rattle.std.proofs.lemmas.List.Elements.{Contains-append_left, Contains-append_right}

pub both_empty : {A : Type 0} (as_ bs : List A) → as_ ++ bs ≡ [] → (as_ ≡ []) × (bs ≡ [])
both_empty [] bs e = (refl, e)
both_empty (a ∷ as_) bs e = absurd (cc e)

pub map_empty : {A B : Type 0} (f : A → B) (as_ : List A) → map f as_ ≡ [] → as_ ≡ []
map_empty f [] e = refl
map_empty f (a ∷ as_) e = absurd (cc e)

pub equal_or_less : (m n : ℕ) → m ≤ n → (m ≡ n) ⊎ (suc m ≤ n)
equal_or_less zero zero h = inl refl
equal_or_less zero (suc n) h = inr (omega arith)
equal_or_less (suc m) zero h = absurd (omega (arith, h))
equal_or_less (suc m) (suc n) h =
    elim (equal_or_less m n (omega (arith, h))) [ inl e ↦ inl (ap suc e) | inr l ↦ inr (omega (arith, l)) ]

module _ {A : Type 0} (f : ℕ → List A) where
  -- what is empty for all numbers of a range is so for each
  pub each_empty : (first count n : ℕ) → flat_map f (range_with_len first count) ≡ [] → first ≤ n → n < first + count → f n ≡ []
  each_empty first zero n e l h = absurd (omega (arith, l, h))
  each_empty first (suc count) n e l h =
      let parts = both_empty (f first) (flat_map f (range_with_len (first + 1) count)) e in
      elim (equal_or_less first n l) [
        | inl same ↦ subst (λ k. f k ≡ []) same parts.0
        | inr later ↦ each_empty (first + 1) count n parts.1 (omega (arith, later)) (omega (arith, h))
      ]

  -- what is there for a number of a range
  pub there_for : (first count n : ℕ) (x : A) → first ≤ n → n < first + count → Contains (f n) x →
      Contains (flat_map f (range_with_len first count)) x
  there_for first zero n x l h there = absurd (omega (arith, l, h))
  there_for first (suc count) n x l h there =
      elim (equal_or_less first n l) [
        | inl same ↦ Contains-append_left (f first) (flat_map f (range_with_len (first + 1) count)) x
            (subst (λ k. Contains (f k) x) (sym same) there)
        | inr later ↦ Contains-append_right (f first) (flat_map f (range_with_len (first + 1) count)) x
            (there_for (first + 1) count n x (omega (arith, later)) (omega (arith, h)) there)
      ]

-- what holds of all numbers of a range holds of each
pub each_holds : (f : ℕ → Bool) (first count n : ℕ) → list_all f (range_with_len first count) ≡ true → first ≤ n →
    n < first + count → f n ≡ true
each_holds f first zero n e l h = absurd (omega (arith, l, h))
each_holds f first (suc count) n e l h =
    let parts = and_parts (f first) (list_all f (range_with_len (first + 1) count)) e in
    elim (equal_or_less first n l) [
      | inl same ↦ subst (λ k. f k ≡ true) same parts.0
      | inr later ↦ each_holds f (first + 1) count n parts.1 (omega (arith, later)) (omega (arith, h))
    ]
