-- What a store holds, and when it has the shape of a system.
use Rattle.std.specs.Prelude.{◌≡◌, ℕ, ◌-◌, List, [], ℤ, length, slice_index_or}
use Rattle.dom_laws.specs.Lattice.{Lattice}
use Rattle.dom_laws.specs.Flow.{Flow}

-- rows of one length, those of the nodes 1, 2 and on
pub record Stored : Type 0 where
  pub words : ℕ
  pub rows : List (List ℤ)

-- the row of a node
abbrev pub row_at : List (List ℤ) → ℕ → List ℤ
row_at rows node = slice_index_or rows (node - 1) []

pub record HasShape (l : Lattice) (f : Flow) (store : Stored) : Type 0 where
  pub words : store.words ≡ l.width
  pub nodes : length store.rows ≡ f.nodes
