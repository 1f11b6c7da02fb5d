-- Cells that are forgotten, by a mark for each.
use Rattle.std.specs.Prelude.{ℕ, suc, if◌then◌else◌, Bool, List, [], ◌∷◌, ℤ}
use Rattle.diff_steps.specs.Matrices.{forgotten}

abbrev pub forgotten_if : ℕ → ℕ → Bool → List ℤ → List ℤ
forgotten_if size at gone m = if gone then forgotten size at m else m

-- the matrix without what it says of the marked cells, whose places are counted from `at` on
abbrev pub forgotten_marked : ℕ → ℕ → List Bool → List ℤ → List ℤ
forgotten_marked size at [] m = m
forgotten_marked size at (gone ∷ marks) m = forgotten_marked size (suc at) marks (forgotten_if size at gone m)
