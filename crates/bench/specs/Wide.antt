-- The system that is timed: a chain of nodes. A row has 600 words, all the same level from 0 to 9.
use Rattle.std.specs.Prelude.{◌≡◌, ℕ, ◌+◌, ◌-◌, List, ℤ, pos, ◌-ℤ◌, ◌≤ℤ◌, unsigned_abs, slice_index_or, replicate, int_le, if◌then◌else◌}
use Rattle.std.specs.Int.{int_max}
use Rattle.dom_laws.specs.Lattice.{Lattice}
use Rattle.dom_laws.specs.Flow.{Flow}

abbrev pub word : List ℤ → ℤ
word row = slice_index_or row 0 (pos 0)

abbrev pub row_of : ℤ → List ℤ
row_of level = replicate 600 level

abbrev pub widened : ℤ → ℤ → ℤ
widened p q = if int_le q p then p else pos 9

abbrev pub wide : Lattice
wide = record {
  width = 600;
  IsWellFormed = λ row. (row ≡ row_of (word row)) × (pos 0 ≤ℤ word row) × (word row ≤ℤ pos 9);
  Below = λ a b. word a ≤ℤ word b;
  least = row_of (pos 0);
  join = λ a b. row_of (int_max (word a) (word b));
  widen = λ a b. row_of (widened (word a) (word b));
  rank = λ a. unsigned_abs (pos 9 -ℤ word a);
  height = 9;
}

abbrev pub chain : ℕ → Flow
chain nodes = record {
  nodes = nodes;
  edges = nodes - 1;
  source = λ edge. edge;
  target = λ edge. edge + 1;
  entry = row_of (pos 1);
  post = λ edge row. row_of (word row);
}
