-- What callers see of the nodes' rows.
use Rattle.std.specs.Prelude.{◌≡◌, ℕ, ◌-◌, List, ℤ, Bool, map, get_or, slice_set, Option, Some, None, IsSome}
use Rattle.block_store.specs.BlocksLends.{words_at}
use Rattle.dom_laws.specs.Lattice.{Lattice}
use Rattle.dom_laws.specs.Flow.{Flow}
use Rattle.widen_solver.specs.Stored.{row_at}
use Rattle.widen_solver.specs.Solving.{Arrives}

pub record RowsHeld : Type 0 where
  pub words : ℕ
  -- what a node shows that has no row of its own
  pub bottom : List ℤ
  -- an edge's result, while the system is solved
  pub transfer : Option (List ℤ)
  -- the rows of their own, of the nodes 1, 2 and on
  pub rows : List (Option (List ℤ))

abbrev pub shown : List ℤ → Option (List ℤ) → List ℤ
shown bottom None = bottom
shown bottom (Some row) = row

abbrev pub shown_rows : RowsHeld → List (List ℤ)
shown_rows h = map (shown h.bottom) h.rows

abbrev pub row_shown : RowsHeld → ℕ → List ℤ
row_shown h index = shown h.bottom (get_or h.rows index None)

abbrev pub with_bottom : RowsHeld → List ℤ → RowsHeld
with_bottom h row = record { words = h.words; bottom = row; transfer = h.transfer; rows = h.rows }

abbrev pub with_transfer : RowsHeld → Option (List ℤ) → RowsHeld
with_transfer h row = record { words = h.words; bottom = h.bottom; transfer = row; rows = h.rows }

abbrev pub with_own : RowsHeld → ℕ → Option (List ℤ) → RowsHeld
with_own h index row = record { words = h.words; bottom = h.bottom; transfer = h.transfer; rows = slice_set h.rows index row }

-- there is room for a transfer, of the lattice's width
pub record IsReady (l : Lattice) (h : RowsHeld) : Type 0 where
  pub words : h.words ≡ l.width
  pub transfer : IsSome h.transfer

-- the transfer comes to a node, and the other nodes show what they did
pub record ArrivesAt (l : Lattice) (f : Flow) (node : ℕ) (old new : RowsHeld) (grew : Bool) : Type 0 where
  pub row : List ℤ
  pub arrives : Arrives l f node (row_at (shown_rows old) node) (words_at old.transfer) row grew
  pub rows : shown_rows new ≡ slice_set (shown_rows old) (node - 1) row
  pub words : new.words ≡ old.words
  pub transfer : new.transfer ≡ old.transfer
