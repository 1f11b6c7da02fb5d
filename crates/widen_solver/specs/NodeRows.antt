-- What the fields of the nodes' rows mean.
use Rattle.std.specs.Prelude.{ℕ, List, ◌∷◌, Option, Some}
use Rattle.block_store.specs.Held.{Held}
use Rattle.widen_solver.specs.RowsHeld.{RowsHeld}
use Rattle.widen_solver.specs.Slots.{content, slot_content, contents, AreSlots}
use Rattle.widen_solver.specs.declared.node_rows.NodeRows.TheInside.{Inside}

abbrev pub held_of : Held → ℕ → Option ℕ → List (Option ℕ) → RowsHeld
held_of h bottom transfer ids = record { words = h.words; bottom = content h bottom; transfer = slot_content h transfer; rows = contents h ids }

abbrev pub rows_held : Inside → RowsHeld
rows_held g = held_of g.blocks g.bottom g.transfer g.ids.items

-- the bottom's, the transfer's and the nodes'
abbrev pub slots_of : ℕ → Option ℕ → List (Option ℕ) → List (Option ℕ)
slots_of bottom transfer ids = Some bottom ∷ transfer ∷ ids

abbrev pub AreNodeRows : Inside → Type 0
AreNodeRows g = AreSlots g.blocks (slots_of g.bottom g.transfer g.ids.items)
