-- The laws of the first layer, which what is known of cells keeps along the graph of a source's program.
use Rattle.std.specs.Prelude.{ℕ, List, ℤ, Some}
use Rattle.cob_program.specs.Act.{Program}
use Rattle.cob_graph.specs.declared.graph.Graph.{Graph}
use Rattle.dom_laws.specs.Flow.{IsFlow}
use Rattle.dom_laws.specs.Meaning.{IsMeaning}
use Rattle.graph_runs.specs.Sources.{IsSourceGraph}
use Rattle.interval_domain.specs.Elements.{Element, ElementFits}
use Rattle.interval_domain.specs.Rows.{cells_lattice}
use Rattle.cell_steps.specs.OwnRanges.{owns}
use Rattle.cell_laws.specs.Entry.{entry_cells}
use Rattle.cell_laws.specs.Layer.{post_at, cell_flow, cell_meaning}
use Rattle.cell_laws.proofs.Entry.{entry_fits}
use Rattle.cell_laws.proofs.Flow.{cells_flow, post_fits}
use Rattle.cell_laws.proofs.Meaning.{cells_mean}

pub record LayerLaws (p : Program) (g : Graph) : Type 0 where
  pub flows : (thresholds : List (List ℤ)) → IsFlow (cells_lattice (owns p) thresholds) (cell_flow p g)
  pub means : (thresholds : List (List ℤ)) → IsMeaning (cells_lattice (owns p) thresholds) (cell_flow p g) (cell_meaning p g)
  pub entry_fits : ElementFits (owns p) (Some (entry_cells p))
  pub post_fits : (e : ℕ) (x : Element) → ElementFits (owns p) x → ElementFits (owns p) (post_at p g e x)

pub layer_laws : (p : Program) (g : Graph) → ∥ IsSourceGraph p g ∥₁ → LayerLaws p g
layer_laws p g source = record {
  flows = λ thresholds. cells_flow p g thresholds source;
  means = λ thresholds. cells_mean p g thresholds;
  entry_fits = entry_fits p g source;
  post_fits = post_fits p g;
}
