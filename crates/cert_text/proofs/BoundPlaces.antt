-- Bounds that come after one another are of different places, and there are no more of them than most_bounds.
use Rattle.std.proofs.Common.{◌≡◌, ◌≢◌, ℕ, zero, suc, ◌+◌, ◌*◌, ◌<◌, ◌≤◌, Bool, true, false, cond, ltb, List, [], ◌∷◌, length, refl, sym, subst, inl, inr, arith}
use Rattle.std.specs.Prelude.{get_or, ◌⊎◌}
use Rattle.std.proofs.lemmas.Bool.{ltb-true, ltb-false}
use Rattle.std.proofs.lemmas.Nat.{mul-le}
use Rattle.cert_text.specs.Lengths.{most_bounds}

-- two different places of a pack with so many cells
pub record IsPair (size row column : ℕ) : Type 0 where
  pub row_in : row ≤ size
  pub column_in : column ≤ size
  pub differ : row ≢ column

-- one pair of places after another; packs go by their place from 0
abbrev pub IsAfter : ℕ → ℕ → ℕ → ℕ → ℕ → ℕ → Type 0
IsAfter pack row column later lower righter = (pack < later) ⊎ ((pack ≡ later) × ((row < lower) ⊎ ((row ≡ lower) × (column < righter))))

-- ---- one pack

-- how many columns of a row come up to this one, the row's own place left out
abbrev columns_to : ℕ → ℕ → ℕ
columns_to row column = cond (ltb column row) (suc column) column

columns_some : (size row column : ℕ) → IsPair size row column → 0 < columns_to row column
columns_some size row column h = by_order (ltb column row) refl
  where
    by_order : (b : Bool) → ltb column row ≡ b → 0 < cond b (suc column) column
    by_order true is = omega arith
    by_order false is = omega (arith, ltb-false column row is, h.differ)

columns_within : (size row column : ℕ) → IsPair size row column → columns_to row column ≤ size
columns_within size row column h = by_order (ltb column row) refl
  where
    by_order : (b : Bool) → ltb column row ≡ b → cond b (suc column) column ≤ size
    by_order true is = omega (arith, ltb-true column row is, h.row_in)
    by_order false is = h.column_in

columns_rise : (size row column righter : ℕ) → IsPair size row column → IsPair size row righter → column < righter → columns_to row column < columns_to row righter
columns_rise size row column righter h k less = by_order (ltb column row) refl (ltb righter row) refl
  where
    by_order : (b : Bool) → ltb column row ≡ b → (c : Bool) → ltb righter row ≡ c → cond b (suc column) column < cond c (suc righter) righter
    by_order true is true that = omega arith
    by_order true is false that = omega (arith, ltb-true column row is, ltb-false righter row that, k.differ)
    by_order false is true that = omega (arith, ltb-false column row is, ltb-true righter row that)
    by_order false is false that = omega arith

-- how many pairs of a pack with so many cells come up to this one
abbrev pairs_in : ℕ → ℕ → ℕ → ℕ
pairs_in size row column = row * size + columns_to row column

pairs_within : (size row column : ℕ) → IsPair size row column → pairs_in size row column ≤ size * (size + 1)
pairs_within size row column h = omega (arith, mul-le row size size size h.row_in (omega arith), columns_within size row column h)

pairs_rise : (size row column lower righter : ℕ) → IsPair size row column → IsPair size lower righter → (row < lower) ⊎ ((row ≡ lower) × (column < righter))
    → pairs_in size row column < pairs_in size lower righter
pairs_rise size row column lower righter h k (inl less) =
    omega (arith, mul-le (row + 1) size lower size (omega arith) (omega arith), columns_within size row column h, columns_some size lower righter k)
pairs_rise size row column lower righter h k (inr (same, less)) =
    let k' : IsPair size row righter = subst (λ (r : ℕ). IsPair size r righter) (sym same) k in
    subst (λ (r : ℕ). pairs_in size row column < pairs_in size r righter) same (omega (arith, columns_rise size row column righter h k' less))

-- ---- all packs

abbrev size_at : List (List ℕ) → ℕ → ℕ
size_at packs pack = length (get_or packs pack [])

-- how many pairs of places come up to this one
abbrev pub pairs_to : List (List ℕ) → ℕ → ℕ → ℕ → ℕ
pairs_to [] pack row column = 0
pairs_to (p ∷ ps) zero row column = pairs_in (length p) row column
pairs_to (p ∷ ps) (suc pack) row column = length p * (length p + 1) + pairs_to ps pack row column

pub some_pair : (packs : List (List ℕ)) (pack row column : ℕ) → pack < length packs → IsPair (size_at packs pack) row column → 0 < pairs_to packs pack row column
some_pair [] pack row column in_ h = absurd (omega arith)
some_pair (p ∷ ps) zero row column in_ h = omega (arith, columns_some (length p) row column h)
some_pair (p ∷ ps) (suc pack) row column in_ h = omega (arith, some_pair ps pack row column (omega arith) h)

pub pairs_to_most : (packs : List (List ℕ)) (pack row column : ℕ) → pack < length packs → IsPair (size_at packs pack) row column → pairs_to packs pack row column ≤ most_bounds packs
pairs_to_most [] pack row column in_ h = absurd (omega arith)
pairs_to_most (p ∷ ps) zero row column in_ h = omega (arith, pairs_within (length p) row column h)
pairs_to_most (p ∷ ps) (suc pack) row column in_ h = omega (arith, pairs_to_most ps pack row column (omega arith) h)

pub pairs_to_rise : (packs : List (List ℕ)) (pack row column later lower righter : ℕ) → pack < length packs → later < length packs
    → IsPair (size_at packs pack) row column → IsPair (size_at packs later) lower righter → IsAfter pack row column later lower righter
    → pairs_to packs pack row column < pairs_to packs later lower righter
pairs_to_rise [] pack row column later lower righter in_ in2 h k after = absurd (omega arith)
pairs_to_rise (p ∷ ps) zero row column zero lower righter in_ in2 h k (inl less) = absurd (omega arith)
pairs_to_rise (p ∷ ps) zero row column zero lower righter in_ in2 h k (inr (same, after)) = pairs_rise (length p) row column lower righter h k after
pairs_to_rise (p ∷ ps) zero row column (suc later) lower righter in_ in2 h k after =
    omega (arith, pairs_within (length p) row column h, some_pair ps later lower righter (omega arith) k)
pairs_to_rise (p ∷ ps) (suc pack) row column zero lower righter in_ in2 h k (inl less) = absurd (omega arith)
pairs_to_rise (p ∷ ps) (suc pack) row column zero lower righter in_ in2 h k (inr (same, after)) = absurd (omega arith)
pairs_to_rise (p ∷ ps) (suc pack) row column (suc later) lower righter in_ in2 h k (inl less) =
    omega (arith, pairs_to_rise ps pack row column later lower righter (omega arith) (omega arith) h k (inl (omega arith)))
pairs_to_rise (p ∷ ps) (suc pack) row column (suc later) lower righter in_ in2 h k (inr (same, after)) =
    omega (arith, pairs_to_rise ps pack row column later lower righter (omega arith) (omega arith) h k (inr (omega arith, after)))
