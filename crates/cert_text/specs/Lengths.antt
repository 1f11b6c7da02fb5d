-- How long the text of a certificate can be.
use Rattle.std.specs.Prelude.{ℕ, ◌+◌, ◌*◌, List, [], ◌∷◌, length}
use Rattle.cert_text.specs.View.{Certificate}

-- how many bounds a node can have: of each pack one for every two different places, 0 among them
abbrev pub most_bounds : List (List ℕ) → ℕ
most_bounds [] = 0
most_bounds (pack ∷ packs) = length pack * (length pack + 1) + most_bounds packs

-- A claim's line has at most 46 bytes, a bound's 49, the first of a node 10, and all that stand before the nodes and
-- behind them together at most 2,000, where the numbers of cells have three digits and those of nodes four.
abbrev pub most_bytes : Certificate → ℕ
most_bytes c = 2000 + length c.nodes * (10 + 46 * c.cells + 49 * most_bounds c.packs)
