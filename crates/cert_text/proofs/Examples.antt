-- How long texts can be, worked by hand.
use Rattle.std.proofs.Common.{◌≡◌, ℕ, ◌+◌, ◌*◌, pos, [], ◌∷◌, refl}
use Rattle.std.specs.Prelude.{neg_ℤ}
use Rattle.cert_text.specs.View.{NotReached, Holds, Certificate}
use Rattle.cert_text.specs.Lengths.{most_bounds, most_bytes}

-- two cells in a pack, and two nodes: COBSOUND 1, cells 2, nodes 2, packs 1, pack 1 2, node 1, c 1 0 9, d 1 1 2 -1, none 2, end
abbrev small : Certificate
small = record {
  cells = 2;
  packs = (1 ∷ 2 ∷ []) ∷ [];
  nodes = Holds (record { cell = 1; low = pos 0; high = pos 9 } ∷ []) (record { pack = 1; row = 1; column = 2; most = neg_ℤ (pos 1) } ∷ []) ∷ NotReached ∷ [];
}

-- both differences of the two cells, and each cell below and above a number
small_bounds : most_bounds small.packs ≡ 6
small_bounds = refl

small_bytes : most_bytes small ≡ 2000 + 2 * (10 + 92 + 294)
small_bytes = refl

-- packs of 2, 3 and 8 cells
more_bounds : most_bounds ((1 ∷ 2 ∷ []) ∷ (1 ∷ 2 ∷ 3 ∷ []) ∷ (1 ∷ 2 ∷ 3 ∷ 4 ∷ 5 ∷ 6 ∷ 7 ∷ 8 ∷ []) ∷ []) ≡ 6 + 12 + 72
more_bounds = refl
