-- What is known of differences of cells along the graph of a program, beside what is known of the cells at each node: the
-- second layer of the analysis (Miné 2001).
use Rattle.std.specs.Prelude.{◌≡◌, ◌≤◌, ℕ, ◌==◌, not, ◌||◌, Bool, true, List, map, length, Some, None, ℤ}
use Rattle.std.specs.Option.{option_map_or}
use Rattle.std.specs.List.{list_all, AllByRecursion}
use Rattle.cob_tree.specs.declared.fault.Kind.{Kind}
use Rattle.cob_program.specs.Act.{Program}
use Rattle.cob_runs.specs.Effects.{act_at}
use Rattle.cob_graph.specs.declared.graph.Edge.{Edge}
use Rattle.cob_graph.specs.declared.graph.Graph.{Graph}
use Rattle.dom_laws.specs.Lattice.{Lattice}
use Rattle.dom_laws.specs.Flow.{Flow}
use Rattle.dom_laws.specs.Meaning.{Meaning}
use Rattle.graph_runs.specs.Places.{edge_at}
use Rattle.graph_runs.specs.Flows.{flow_over}
use Rattle.graph_runs.specs.Doing.{graph_runs}
use Rattle.interval_domain.specs.Known.{Known}
use Rattle.interval_domain.specs.Elements.{Element}
use Rattle.interval_domain.specs.Rows.{element_of, IsRow}
use Rattle.cell_steps.specs.OwnRanges.{owns}
use Rattle.cell_steps.specs.Storages.{ElementStands}
use Rattle.cell_laws.specs.Entry.{entry_cells}
use Rattle.cell_laws.specs.Layer.{left}
use Rattle.diff_bounds.specs.PackRows.{matrices_in, row_of, packs_lattice}
use Rattle.diff_steps.specs.Packs.{Pack, size_of, PacksStand}
use Rattle.diff_steps.specs.Edges.{bottoms, entry_packs, post_packs}
use Rattle.diff_steps.specs.Clearing.{clears_edge2}
use Rattle.pack_laws.specs.Agreeing.{ArePacksOf}

abbrev pub sizes_of : List Pack → List ℕ
sizes_of packs = map size_of packs

-- what is known of cells at each node, as rows of the first layer
abbrev pub Facts : Type 0
Facts = ℕ → List ℤ

abbrev pub AreFacts : Program → Graph → Facts → Type 0
AreFacts p g facts = (node : ℕ) → 1 ≤ node → node ≤ length g.nodes → IsRow (owns p) (facts node)

-- Each pack has 8 cells of the program at most, and a list of thresholds.
pub record ArePacks (p : Program) (packs : List Pack) (lists : List (List ℤ)) : Type 0 where
  pub cells : ArePacksOf p packs
  pub few : AllByRecursion (λ pack. size_of pack ≤ 8) packs
  pub listed : length lists ≡ length packs

module _ (packs : List Pack) (lists : List (List ℤ)) where
  abbrev pub diff_lattice : Lattice
  diff_lattice = packs_lattice (sizes_of packs) lists

module _ (p : Program) (g : Graph) (packs : List Pack) where
  -- ---- edges

  -- What an edge makes of matrices, beside what is known of cells at its source.
  abbrev pub edge_packs : Edge → List Known → List (List ℤ) → List (List ℤ)
  edge_packs x cells ms = option_map_or (λ a. post_packs p packs (left g x) a x.action (Some cells) ms) (act_at p (left g x)) ms

  -- No run comes where nothing is known of the cells.
  abbrev pub packs_post : Edge → Element → List (List ℤ) → List (List ℤ)
  packs_post x None ms = bottoms packs
  packs_post x (Some cells) ms = edge_packs x cells ms

  -- ---- what is cleared

  abbrev pub edge_clears2 : Kind → List Known → List (List ℤ) → Edge → Bool
  edge_clears2 fault cells ms x = option_map_or (λ a. clears_edge2 p packs (left g x) a x.action cells ms fault) (act_at p (left g x)) true

  abbrev pub leaves_clear2 : ℕ → Kind → List Known → List (List ℤ) → Edge → Bool
  leaves_clear2 node fault cells ms x = not (x.from == node) || edge_clears2 fault cells ms x

  abbrev pub clears_at2 : ℕ → Element → List (List ℤ) → Kind → Bool
  clears_at2 node element ms fault = option_map_or (λ cells. list_all (leaves_clear2 node fault cells ms) g.edges) element true

  -- ---- the layer

  module _ (facts : Facts) where
    abbrev pub diff_post : ℕ → List ℤ → List ℤ
    diff_post e row =
        row_of (packs_post (edge_at g e) (element_of (facts (edge_at g e).from)) (matrices_in (sizes_of packs) row))

    abbrev pub diff_flow : Flow
    diff_flow = flow_over g (row_of (entry_packs p packs (entry_cells p))) diff_post

    abbrev pub diff_meaning : Meaning
    diff_meaning = record {
      runs = graph_runs p g;
      StandsFor = λ row s. PacksStand p.layout packs (matrices_in (sizes_of packs) row) s;
      Granted = λ node s. ElementStands p (element_of (facts node)) s;
      Clears = λ node row fault. clears_at2 node (element_of (facts node)) (matrices_in (sizes_of packs) row) fault ≡ true;
    }
