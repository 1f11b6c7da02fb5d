-- The cells of a source's graph are its program's, and have at most 18 digits and decimals.
use Rattle.std.proofs.Common.{◌≡◌, sym, subst}
use Rattle.std.specs.List.{All}
use Rattle.std.proofs.Props.{props}
use Rattle.std.proofs.Math.Logic.{∥∥₁_elim}
use Rattle.std.proofs.lemmas.List.Elements.{All-from_recursion}
use Rattle.cob_program.specs.Act.{Program}
use Rattle.cob_graph.specs.declared.graph.Graph.{Graph}
use Rattle.cob_graph.specs.Graphs.{cells_of}
use Rattle.graph_runs.specs.Sources.{IsSourceGraph}
use Rattle.cell_ranges.proofs.CellSizes.{cells_are_within, each_within}
use Rattle.analyse_core.specs.Thresholds.{IsSmallCell}

module _ (p : Program) (g : Graph) (source : ∥ IsSourceGraph p g ∥₁) where
  pub graph_cells_small : All IsSmallCell g.cells
  graph_cells_small =
      ∥∥₁_elim source (hlevel props) (λ (s : IsSourceGraph p g).
      subst (All IsSmallCell) (sym s.graph.cells) (All-from_recursion IsSmallCell (cells_of p)
      (each_within IsSmallCell (λ c is. record { digits = is.0; decimals = is.1 }) (cells_of p) (cells_are_within p s.whole s.items.items))))

  pub cells_are : g.cells ≡ cells_of p
  cells_are = ∥∥₁_elim source (hlevel props) (λ (s : IsSourceGraph p g). s.graph.cells)
