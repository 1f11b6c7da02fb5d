-- The bytes that parts write to, and the items that an edge's operands are read of.
use Rattle.std.specs.Prelude.{ℕ, Bool, if◌then◌else◌, List, [], ◌∷◌, Option, Some, None}
use Rattle.cob_data.specs.declared.extent.Extent.{Extent}
use Rattle.cob_data.specs.declared.layout.Layout.{Layout}
use Rattle.cob_program.specs.Sum.{Part as Product, MkPart}
use Rattle.cob_program.specs.Act.{Act}
use Rattle.cob_runs.specs.declared.action.Action.{Action}
use Rattle.cob_runs.specs.Computing.{items_in_factors}
use Rattle.cob_edge_parts.specs.Parts.{Amount, Part, store, bytes_in}
use Rattle.transfer_ranges.specs.EdgeOperands.{edge_amount}
use Rattle.cell_steps.specs.Cells.{bytes_from}
use Rattle.diff_steps.specs.Moments.{item_bytes}
use Rattle.diff_layer.specs.PackWriting.{amount_items}

-- The bytes that a part writes to. A store writes to none on an edge that keeps its receiver, which the first argument tells.
abbrev pub part_bytes : Bool → Layout → Part → List Extent
part_bytes keeps l (store place mode y) = if keeps then [] else item_bytes l place
part_bytes keeps l (bytes_in offset count) = bytes_from offset count ∷ []
part_bytes keeps l _ = []

-- the items of a product
abbrev pub product_items : Product → List ℕ
product_items (MkPart minus fs) = items_in_factors fs

abbrev pub items_of_amount : Option Amount → List ℕ
items_of_amount None = []
items_of_amount (Some y) = amount_items y

-- the items that the operands of an edge are read of
abbrev pub edge_items : Act → Action → List ℕ
edge_items a x = items_of_amount (edge_amount a x)
