-- The first gap of a list of gaps by place.
use Rattle.std.proofs.Common.{◌≡◌, ℕ, zero, suc, ◌+◌, ◌<◌, ◌≤◌, true, false, List, [], ◌∷◌, ◌++◌, get_or, slice_get, Option, Some, None, is_some, ℤ, pos, refl, sym, ap, ◌∙◌, inl, inr, arith}
use Rattle.std.specs.List.{flat_map, range_with_len}
use Rattle.std.proofs.lemmas.Bool.{cases_eq}
use Rattle.cert_text.specs.declared.gap.Gap.{Gap}
use Rattle.cert_text.specs.MatrixGaps.{word_gaps}

-- the first of a list of gaps
abbrev pub first : List Gap → Option Gap
first gaps = slice_get gaps 0

pub none_is : (gaps : List Gap) → None ≡ first gaps → gaps ≡ []
none_is [] e = refl
none_is (g ∷ gaps) e = absurd (cc e)

pub first_some : (as_ bs : List Gap) (gap : Option Gap) → gap ≡ first as_ → is_some gap ≡ true → gap ≡ first (as_ ++ bs)
first_some [] bs None e is = absurd (cc is)
first_some [] bs (Some gap) e is = absurd (cc e)
first_some (g ∷ as_) bs gap e is = e

pub first_none : (as_ bs : List Gap) (gap other : Option Gap) → gap ≡ first as_ → is_some gap ≡ false → other ≡ first bs → other ≡ first (as_ ++ bs)
first_none as_ bs (Some gap) other e is f = absurd (cc is)
first_none as_ bs None other e is f = f ∙ ap (λ (gs : List Gap). first (gs ++ bs)) (sym (none_is as_ e))

pub no_parts : (as_ bs : List Gap) → as_ ++ bs ≡ [] → (as_ ≡ []) × (bs ≡ [])
no_parts [] bs e = (refl, e)
no_parts (g ∷ as_) bs e = absurd (cc e)

module _ (f : ℕ → List Gap) where
  -- a gap that is found is the first if no place before has one
  pub found_at : (a n k : ℕ) (gap : Option Gap) → a ≤ k → k < a + n → ((j : ℕ) → a ≤ j → j < k → f j ≡ []) → gap ≡ first (f k) → is_some gap ≡ true
      → gap ≡ first (flat_map f (range_with_len a n))
  found_at a zero k gap low high before e is = absurd (omega (arith, low, high))
  found_at a (suc n) k gap low high before e is = elim (cases_eq k a) as (λ _. gap ≡ first (f a ++ flat_map f (range_with_len (a + 1) n))) [
    | inl same ↦ first_some (f a) (flat_map f (range_with_len (a + 1) n)) gap (e ∙ ap (λ m. first (f m)) same) is
    | inr ne ↦
        found_at (a + 1) n k gap (omega (arith, low, ne)) (omega (arith, high)) (λ j l h. before j (omega (arith, l)) h) e is
        ∙ ap (λ (gs : List Gap). first (gs ++ flat_map f (range_with_len (a + 1) n))) (sym (before a (omega arith) (omega (arith, low, ne))))
  ]

  pub none_at : (a n : ℕ) → ((j : ℕ) → a ≤ j → j < a + n → f j ≡ []) → flat_map f (range_with_len a n) ≡ []
  none_at a zero none = refl
  none_at a (suc n) none =
      (λ i. none a (omega arith) (omega arith) i ++ flat_map f (range_with_len (a + 1) n))
      ∙ none_at (a + 1) n (λ j l h. none j (omega (arith, l)) (omega (arith, h)))

  -- where all places together have no gap, none has one
  pub each_none : (a n : ℕ) → flat_map f (range_with_len a n) ≡ [] → (j : ℕ) → a ≤ j → j < a + n → f j ≡ []
  each_none a zero e j l h = absurd (omega (arith, l, h))
  each_none a (suc n) e j l h = elim (cases_eq j a) as (λ _. f j ≡ []) [
    | inl same ↦ ap f same ∙ (no_parts (f a) (flat_map f (range_with_len (a + 1) n)) e).0
    | inr ne ↦ each_none (a + 1) n (no_parts (f a) (flat_map f (range_with_len (a + 1) n)) e).1 j (omega (arith, l, ne)) (omega (arith, h))
  ]

  -- one more place has no gap
  pub one_more : (k : ℕ) (gap : Option Gap) → ((j : ℕ) → j < k → f j ≡ []) → gap ≡ first (f k) → is_some gap ≡ false → (j : ℕ) → j < k + 1 → f j ≡ []
  one_more k (Some gap) before e is j h = absurd (cc is)
  one_more k None before e is j h = elim (cases_eq j k) as (λ _. f j ≡ []) [
    | inl same ↦ ap f same ∙ none_is (f k) e
    | inr ne ↦ before j (omega (arith, h, ne))
  ]

-- ---- the places of a matrix

abbrev pub gaps_at : ℕ → ℕ → List ℤ → List ℤ → ℕ → List Gap
gaps_at pack size reached claimed k = word_gaps pack size k (get_or reached k (pos 0)) (get_or claimed k (pos 0))

-- a gap is the first of equal words too
pub gap_along : (pack size k : ℕ) (gap : Option Gap) (x y reached claimed : ℤ) → gap ≡ first (word_gaps pack size k x y) → x ≡ reached → y ≡ claimed
    → gap ≡ first (word_gaps pack size k reached claimed)
gap_along pack size k gap x y reached claimed e f g = e ∙ (λ i. first (word_gaps pack size k (f i) (g i)))
