-- What contracts see of the edges of a graph with packs.
use Rattle.std.specs.Prelude.{ℕ, ◌+◌, ◌*◌, List, ℤ, slice_index_or}
use Rattle.cob_program.specs.ActView.{plain_program}
use Rattle.cob_program.specs.Act.{Program}
use Rattle.cob_graph.specs.declared.graph.Edge.{Edge}
use Rattle.cob_graph.specs.declared.graph.Graph.{Graph}
use Rattle.graph_runs.specs.Places.{no_edge}
use Rattle.interval_domain.specs.Known.{Known}
use Rattle.interval_domain.specs.Rows.{cells_of}
use Rattle.diff_steps.specs.Packs.{Pack}
use Rattle.diff_layer.specs.declared.layer.graph.PackWorks.{PackWorks}
use Rattle.diff_layer.specs.declared.layer.graph.NodeRows.{NodeRows}
use Rattle.diff_layer.specs.Plans.{plain_plans, matrices_for}

abbrev pub program_of : PackWorks → Program
program_of w = plain_program w.works.now.program.now

abbrev pub graph_of : PackWorks → Graph
graph_of w = w.works.now.graph.now

abbrev pub packs_of : PackWorks → List Pack
packs_of w = plain_plans w.plans.now

-- the edge with a number, which counts from 0
abbrev pub edge_of : PackWorks → ℕ → Edge
edge_of w at = slice_index_or (graph_of w).edges at no_edge

-- the matrices in a row of words
abbrev pub matrices_of : PackWorks → List ℤ → List (List ℤ)
matrices_of w row = matrices_for w.plans.now row

abbrev pub cells_at : NodeRows → List Known
cells_at rows = cells_of rows.cells.now

-- how many words are lent where so many make a row of cells, and so many the matrices
abbrev pub lent_words : ℕ → ℕ → ℕ
lent_words cells matrices = 2 * cells + matrices
