-- The rows of the nodes after one row was written.
use Rattle.std.proofs.Common.{◌≡◌, ℕ, ◌-◌, ◌≤◌, ◌≢◌, List, [], ℤ, length, slice_set, inl, inr, sym, subst, arith, get_or-set_other, get_or-set_same}
use Rattle.std.proofs.lemmas.Bool.{cases_eq}
use Rattle.widen_solver.specs.Stored.{row_at}

pub row_at-set_same : (rows : List (List ℤ)) (node : ℕ) (row : List ℤ) → 1 ≤ node → node ≤ length rows → row_at (slice_set rows (node - 1) row) node ≡ row
row_at-set_same rows node row first last = get_or-set_same rows (node - 1) row [] (omega arith)

pub row_at-set_other : (rows : List (List ℤ)) (node other : ℕ) (row : List ℤ) → 1 ≤ node → 1 ≤ other → other ≢ node → row_at (slice_set rows (node - 1) row) other ≡ row_at rows other
row_at-set_other rows node other row first also differ = get_or-set_other rows (node - 1) (other - 1) row [] (λ e. differ (omega arith))

-- what holds of the written row and of each other row holds at each node
pub each_row : (P : ℕ → List ℤ → Type 0) (rows : List (List ℤ)) (node : ℕ) (row : List ℤ) → 1 ≤ node → node ≤ length rows → P node row → ((other : ℕ) → 1 ≤ other → P other (row_at rows other)) → (other : ℕ) → 1 ≤ other → P other (row_at (slice_set rows (node - 1) row) other)
each_row P rows node row first last here others other also = elim (cases_eq other node) [
  | inl at ↦ subst (λ n. P n (row_at (slice_set rows (node - 1) row) n)) (sym at) (subst (λ r. P node r) (sym (row_at-set_same rows node row first last)) here)
  | inr off ↦ subst (λ r. P other r) (sym (row_at-set_other rows node other row first also off)) (others other also)
]
