-- Limits of what is analysed.
use Rattle.std.specs.Prelude.{ℕ}

-- a program with more cells is refused,
abbrev pub most_cells : ℕ
most_cells = 512

-- and one with more nodes
abbrev pub most_nodes : ℕ
most_nodes = 4096

-- a greater count of nodes is told as this
abbrev pub most_told : ℕ
most_told = 1000000000
