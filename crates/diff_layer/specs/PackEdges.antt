-- What contracts see of an edge with its packs.
use Rattle.std.specs.Prelude.{◌≡◌, Bool, List, ℤ}
use Rattle.cob_data.specs.declared.extent.Extent.{Extent}
use Rattle.cob_program.specs.Act.{Act, Stmt, Program}
use Rattle.cob_runs.specs.declared.action.Action.{Action}
use Rattle.cob_edge_parts.specs.Parts.{Part}
use Rattle.cell_layer.specs.Works.{program_of, statement_of, act_of}
use Rattle.diff_steps.specs.Packs.{Pack}
use Rattle.diff_layer.specs.PackWriting.{are_written}
use Rattle.diff_layer.specs.Plans.{plain_plans, matrices_for}
use Rattle.diff_layer.specs.Works.{bytes_of}
use Rattle.diff_layer.specs.Writing.{edge_items}
use Rattle.diff_layer.specs.declared.pack.edge.PackEdge.{PackEdge}

abbrev pub program_on : PackEdge → Program
program_on edge = program_of edge.work.now

abbrev pub statement_on : PackEdge → Stmt
statement_on edge = statement_of edge.work.now

abbrev pub act_on : PackEdge → Act
act_on edge = act_of edge.work.now

abbrev pub action_on : PackEdge → Action
action_on edge = edge.work.now.action

abbrev pub packs_on : PackEdge → List Pack
packs_on edge = plain_plans edge.plans.now

-- the matrices in a row of words
abbrev pub matrices_on : PackEdge → List ℤ → List (List ℤ)
matrices_on edge row = matrices_for edge.plans.now row

abbrev pub bytes_on : PackEdge → Part → List Extent
bytes_on edge y = bytes_of edge.work.now y

-- the flag tells whether some of these bytes are of the items that the edge's operands are read of
abbrev pub Tells : PackEdge → List Extent → Bool → Type 0
Tells edge wrote written = written ≡ are_written (program_on edge).layout wrote (edge_items (act_on edge) (action_on edge))
