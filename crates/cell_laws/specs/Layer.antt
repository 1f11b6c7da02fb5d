-- What is known of cells along the graph of a program: the first layer of the analysis (Cousot and Cousot 1977).
use Rattle.std.specs.Prelude.{◌≡◌, ℕ, ◌==◌, not, ◌||◌, Bool, true, List, Some, ℤ}
use Rattle.std.specs.Option.{option_map_or}
use Rattle.std.specs.List.{list_all}
use Rattle.cob_tree.specs.declared.fault.Kind.{Kind}
use Rattle.cob_program.specs.Act.{Program}
use Rattle.cob_program.specs.Values.{◌>>=◌}
use Rattle.cob_runs.specs.Effects.{act_at}
use Rattle.cob_graph.specs.declared.graph.Edge.{Edge}
use Rattle.cob_graph.specs.declared.graph.Graph.{Graph}
use Rattle.cob_graph.specs.Lookup.{node_at}
use Rattle.dom_laws.specs.Flow.{Flow}
use Rattle.dom_laws.specs.Meaning.{Meaning}
use Rattle.interval_domain.specs.Known.{Known}
use Rattle.interval_domain.specs.Elements.{Element}
use Rattle.interval_domain.specs.Rows.{row_from, width_of, element_of}
use Rattle.graph_runs.specs.Places.{edge_at}
use Rattle.graph_runs.specs.Flows.{flow_over}
use Rattle.graph_runs.specs.Doing.{graph_runs}
use Rattle.cell_steps.specs.OwnRanges.{owns}
use Rattle.cell_steps.specs.Storages.{ElementStands}
use Rattle.cell_steps.specs.Edges.{post_cells, clears_edge}
use Rattle.cell_laws.specs.Entry.{entry_cells}

-- the number of a node's statement
abbrev pub statement_at : Graph → ℕ → ℕ
statement_at g node = option_map_or (λ n. n.statement) (node_at g.nodes node) 0

-- the number of the statement that an edge leaves
abbrev pub left : Graph → Edge → ℕ
left g x = statement_at g x.from

abbrev pub row_for : Program → Element → List ℤ
row_for p element = row_from (width_of (owns p)) element

module _ (p : Program) (g : Graph) where
  -- ---- edges

  -- What an edge makes of what is known at its source.
  abbrev pub edge_cells : Edge → List Known → Element
  edge_cells x cells = option_map_or (λ a. post_cells p (left g x) a x.action cells) (act_at p (left g x)) (Some cells)

  abbrev pub post_at : ℕ → Element → Element
  post_at e element = element >>= edge_cells (edge_at g e)

  abbrev pub row_post : ℕ → List ℤ → List ℤ
  row_post e row = row_for p (post_at e (element_of row))

  -- ---- what is cleared

  -- No part of the edge meets such a fault.
  abbrev pub edge_clears : Kind → List Known → Edge → Bool
  edge_clears fault cells x = option_map_or (λ a. clears_edge p (left g x) a x.action cells fault) (act_at p (left g x)) true

  -- If the edge leaves the node, no part of it meets such a fault.
  abbrev pub leaves_clear : ℕ → Kind → List Known → Edge → Bool
  leaves_clear node fault cells x = not (x.from == node) || edge_clears fault cells x

  -- No run comes where nothing is known.
  abbrev pub clears_at : ℕ → Element → Kind → Bool
  clears_at node element fault = option_map_or (λ cells. list_all (leaves_clear node fault cells) g.edges) element true

  -- ---- the layer

  abbrev pub cell_flow : Flow
  cell_flow = flow_over g (row_for p (Some (entry_cells p))) row_post

  abbrev pub cell_meaning : Meaning
  cell_meaning = record {
    runs = graph_runs p g;
    StandsFor = λ row s. ElementStands p (element_of row) s;
    Granted = λ node s. Unit {0};
    Clears = λ node row fault. clears_at node (element_of row) fault ≡ true;
  }
