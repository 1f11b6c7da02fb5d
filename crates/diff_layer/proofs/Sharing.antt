-- Whether two extents share bytes doesn't depend on their order.
use Rattle.std.proofs.Common.{◌≡◌, ◌<◌, ℕ, ◌+◌, Bool, true, false, not, refl, sym, ap, ◌∙◌}
use Rattle.std.specs.Prelude.{nat_le}
use Rattle.cob_data.specs.declared.extent.Extent.{Extent}
use Rattle.cob_data.specs.Extents.{start_of, any_below, share_bytes, share_extents}
use Rattle.cob_data.proofs.Meeting.{some_below, any_is, any_isnt}
use Rattle.diff_layer.proofs.Items.{or_swapped}

bytes_swapped : (offset count from many : ℕ) → share_bytes offset count from many ≡ share_bytes from many offset count
bytes_swapped offset count from many = ap (λ b. not b) (or_swapped (nat_le (from + many) offset) (nat_le (offset + count) from))

module _ (m n : ℕ) (test : ℕ → ℕ → Bool) where
  abbrev rows : Bool
  rows = any_below m (λ i. any_below n (λ j. test i j))

  abbrev columns : Bool
  columns = any_below n (λ j. any_below m (λ i. test i j))

  in_column : (i j : ℕ) → i < m → j < n → test i j ≡ true → columns ≡ true
  in_column i j here there e = any_is n (λ j. any_below m (λ i. test i j)) j there (any_is m (λ i. test i j) i here e)

  in_row : (i j : ℕ) → i < m → j < n → test i j ≡ true → rows ≡ true
  in_row i j here there e = any_is m (λ i. any_below n (λ j. test i j)) i here (any_is n (λ j. test i j) j there e)

  found_in_row : (i : ℕ) → i < m → (j : ℕ) × (j < n) × (test i j ≡ true) → columns ≡ true
  found_in_row i here (j, there, e) = in_column i j here there e

  found_in_column : (j : ℕ) → j < n → (i : ℕ) × (i < m) × (test i j ≡ true) → rows ≡ true
  found_in_column j there (i, here, e) = in_row i j here there e

  found : (i : ℕ) × (i < m) × (any_below n (λ j. test i j) ≡ true) → columns ≡ true
  found (i, here, e) = found_in_row i here (some_below n (λ j. test i j) e)

  any_swapped : rows ≡ columns
  any_swapped = go rows refl
    where
      go : (b : Bool) → rows ≡ b → b ≡ columns
      go true e = sym (found (some_below m (λ i. any_below n (λ j. test i j)) e))
      go false e = sym (any_isnt n (λ j. any_below m (λ i. test i j)) (λ j there h. none (found_in_column j there (some_below m (λ i. test i j) h))))
        where
          none : rows ≡ true → ⊥
          none f = cc

pub share_swapped : (a b : Extent) → share_extents a b ≡ share_extents b a
share_swapped a b =
    any_swapped a.times b.times (λ m n. share_bytes (start_of a m) a.length (start_of b n) b.length)
    ∙ (λ i. any_below b.times (λ n. any_below a.times (λ m. bytes_swapped (start_of a m) a.length (start_of b n) b.length i)))
