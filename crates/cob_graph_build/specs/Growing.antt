-- How a graph grows while its nodes are laid, one behind another.
use Rattle.std.specs.Prelude.{ℕ, suc, ◌-◌, List, ◌++◌, length, map}
use Rattle.cob_program.specs.Act.{Program}
use Rattle.cob_program.specs.ActView.{plain_program}
use Rattle.cob_graph.specs.declared.graph.Node.{Node}
use Rattle.cob_graph.specs.declared.graph.Edge.{Edge}
use Rattle.cob_graph_build.specs.declared.within.Within.{Within}
use Rattle.cob_graph.specs.Laid.{LaidParas}
use Rattle.cob_graph.specs.Places.{first_of_para}
use Rattle.cob_graph.specs.Nodes.{Noded, Copied}
use Rattle.cob_graph.specs.Graphs.{as_node, edges_of}
use Rattle.cob_graph_build.specs.Tables.{lay_paras, copy_in}

pub record Seen : Type 0 where
  pub nodes : List Node
  pub edges : List Edge

-- A graph with these nodes behind its own.
abbrev pub grown : Seen → List Noded → Seen
grown s ns = record { nodes = s.nodes ++ map as_node ns; edges = s.edges ++ edges_of (suc (length s.nodes)) ns }

-- ---- the copy in which statements lie

abbrev pub plan : Within → Program
plan w = plain_program w.program.now

abbrev pub copies_of : Within → ℕ → ℕ → LaidParas
copies_of w = copy_in (plan w) w.table.now

abbrev pub paras_of : Within → LaidParas
paras_of w = lay_paras (plan w) (copies_of w) w.first (w.end - w.first)

abbrev pub copied_of : Within → Copied
copied_of w = record {
  layout = w.program.now.layout;
  sites = w.sites.now;
  para = λ n. first_of_para (n - w.first) (paras_of w) w.at w.next;
  final = w.final_node;
}
