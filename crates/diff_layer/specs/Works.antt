-- What contracts see of the work of an edge.
use Rattle.std.specs.Prelude.{List}
use Rattle.cob_data.specs.declared.extent.Extent.{Extent}
use Rattle.cob_edge_parts.specs.Parts.{Part}
use Rattle.cell_steps.specs.Stores.{keeps_receiver}
use Rattle.edge_parts.specs.PartView.{edge_parts}
use Rattle.edge_parts.specs.declared.work.EdgeWork.{EdgeWork}
use Rattle.cell_layer.specs.Works.{program_of, statement_of, act_of}
use Rattle.diff_layer.specs.Writing.{part_bytes}

-- the parts of the edge, in their order
abbrev pub parts_of_edge : EdgeWork → List Part
parts_of_edge work = edge_parts (program_of work) (statement_of work) work.action

-- the bytes that a part of the edge writes to
abbrev pub bytes_of : EdgeWork → Part → List Extent
bytes_of work y = part_bytes (keeps_receiver (act_of work) work.action) (program_of work).layout y
