-- The closing of a matrix as a function: its closure, or nothing where a cycle is negative (Floyd 1962, Warshall 1962).
use Rattle.std.specs.Prelude.{ℕ, zero, suc, ◌+◌, ◌/◌, ◌%◌, Bool, true, ◌&&◌, if◌then◌else◌, List, ℤ, pos, ◌+ℤ◌, int_lt, int_le, Option, Some, None}
use Rattle.std.specs.Int.{int_min}
use Rattle.diff_bounds.specs.Matrix.{word, none, IsMatrix}
use Rattle.diff_bounds.specs.Paths.{cut_of, IsClosure, HasNoNegativeCycle}
use Rattle.diff_bounds.specs.Sums.{no_path}
use Rattle.diff_bounds.specs.Lattice.{matrix_of}

-- a word as a sum
abbrev pub opened : ℤ → ℤ
opened x = if int_lt x none then x else no_path

-- the lesser of the best sum and the sum of two sums, where there are both
abbrev pub lesser : ℤ → ℤ → ℤ → ℤ
lesser best first second = if int_lt first no_path then (if int_lt second no_path then int_min best (first +ℤ second) else best) else best

-- the sums may go through one more place
abbrev pub through : ℕ → (ℕ → ℕ → ℤ) → ℕ → ℕ → ℤ
through via w i j = lesser (w i j) (w i via) (w via j)

-- no sum from a place to itself is negative
abbrev pub is_tame : (ℕ → ℕ → ℤ) → ℕ → Bool
is_tame w zero = true
is_tame w (suc n) = int_le (pos 0) (w n n) && is_tame w n

abbrev pub if_tame : ℕ → (ℕ → ℕ → ℤ) → Option (ℕ → ℕ → ℤ)
if_tame n w = if is_tame w n then Some w else None

abbrev pub sums_further : ℕ → ℕ → Option (ℕ → ℕ → ℤ) → Option (ℕ → ℕ → ℤ)
sums_further n via (Some a) = if_tame n (through via a)
sums_further n via None = None

-- through the first k of n places
unfoldable pub sums_through : ℕ → ℕ → (ℕ → ℕ → ℤ) → Option (ℕ → ℕ → ℤ)
sums_through n zero w = Some (λ i j. opened (w i j))
sums_through n (suc k) w = sums_further n k (sums_through n k w)

abbrev pub cut_sums : ℕ → Option (ℕ → ℕ → ℤ) → Option (List ℤ)
cut_sums size (Some a) = Some (matrix_of size (λ k. cut_of (a (k / (size + 1)) (k % (size + 1)))))
cut_sums size None = None

abbrev pub closed : ℕ → List ℤ → Option (List ℤ)
closed size m = cut_sums size (sums_through (size + 1) (size + 1) (word (size + 1) m))

-- ---- what it is

-- no cycle is negative, and these are the least sums over all paths
pub record IsClosed (size : ℕ) (m c : List ℤ) : Type 0 where
  pub matrix : IsMatrix size c
  pub tame : HasNoNegativeCycle (size + 1) (word (size + 1) m)
  pub closure : IsClosure (size + 1) (word (size + 1) m) (word (size + 1) c)

-- closed, or nothing where a cycle is negative
abbrev pub IsClosedOrNone : ℕ → List ℤ → Option (List ℤ) → Type 0
IsClosedOrNone size m (Some c) = IsClosed size m c
IsClosedOrNone size m None = ¬ HasNoNegativeCycle (size + 1) (word (size + 1) m)
