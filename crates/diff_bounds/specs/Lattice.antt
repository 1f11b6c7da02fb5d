-- Matrices of one size as a lattice, with a widening under which each grows only so often.
use Rattle.std.specs.Prelude.{ℕ, zero, suc, ◌+◌, ◌*◌, ◌/◌, ◌%◌, List, [], ◌∷◌, ℤ, pos, neg_ℤ, length, slice_index_or, map, int_lt, int_le, nat_eq, if◌then◌else◌}
use Rattle.std.specs.Int.{int_max, int_min}
use Rattle.std.specs.List.{range_with_len}
use Rattle.dom_laws.specs.Lattice.{Lattice}
use Rattle.diff_bounds.specs.Matrix.{word, none, largest, IsMatrix}
use Rattle.diff_bounds.specs.Order.{IsAtMost}

-- the matrix with a word for each place, places counted row by row
abbrev pub matrix_of : ℕ → (ℕ → ℤ) → List ℤ
matrix_of size words = map words (range_with_len 0 ((size + 1) * (size + 1)))

-- -10^37 off the diagonal
abbrev pub bottom_word : ℕ → ℕ → ℤ
bottom_word size k = if nat_eq (k / (size + 1)) (k % (size + 1)) then pos 0 else neg_ℤ largest

abbrev pub joined : ℕ → List ℤ → List ℤ → List ℤ
joined size a b = matrix_of size (λ k. int_max (slice_index_or a k (pos 0)) (slice_index_or b k (pos 0)))

-- the least of the thresholds at or above z, or none
abbrev pub next_threshold : List ℤ → ℤ → ℤ
next_threshold [] z = none
next_threshold (t ∷ thresholds) z = if int_le z t then int_min t (next_threshold thresholds z) else next_threshold thresholds z

abbrev pub widened_word : List ℤ → ℤ → ℤ → ℤ
widened_word thresholds old reached = if int_lt old reached then next_threshold thresholds reached else old

abbrev pub widened : ℕ → List ℤ → List ℤ → List ℤ → List ℤ
widened size thresholds a b = matrix_of size (λ k. widened_word thresholds (slice_index_or a k (pos 0)) (slice_index_or b k (pos 0)))

-- ---- how often a matrix can grow
abbrev pub above : List ℤ → ℤ → ℕ
above [] x = 0
above (t ∷ thresholds) x = (if int_lt x t then 1 else 0) + above thresholds x

-- the thresholds above the word, and none
abbrev pub room : List ℤ → ℤ → ℕ
room thresholds x = if int_lt x none then above thresholds x + 1 else 0

abbrev pub sum_below : ℕ → (ℕ → ℕ) → ℕ
sum_below zero f = 0
sum_below (suc n) f = f n + sum_below n f

-- the diagonal doesn't grow
abbrev pub room_at : ℕ → List ℤ → List ℤ → ℕ → ℕ → ℕ
room_at places thresholds m i j = if nat_eq i j then 0 else room thresholds (word places m i j)

abbrev pub total_room : ℕ → List ℤ → List ℤ → ℕ
total_room places thresholds m = sum_below places (λ i. sum_below places (λ j. room_at places thresholds m i j))

abbrev pub height_of : ℕ → ℕ → ℕ
height_of size thresholds = size * (size + 1) * (thresholds + 1)

-- the matrices for a pack of so many cells, widened by these thresholds
abbrev pub matrices : ℕ → List ℤ → Lattice
matrices size thresholds = record {
  width = (size + 1) * (size + 1);
  IsWellFormed = IsMatrix size;
  Below = IsAtMost;
  least = matrix_of size (bottom_word size);
  join = joined size;
  widen = widened size thresholds;
  rank = total_room (size + 1) thresholds;
  height = height_of size (length thresholds);
}
