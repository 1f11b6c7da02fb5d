-- What holds of an edge of a graph by its work.
use Rattle.std.proofs.Common.{◌≡◌, List, length, ℤ, Some, None, Bool, true, Vec, sym, ap, subst, ◌∙◌}
use Rattle.std.specs.List.{AllByRecursion}
use Rattle.std.specs.declared.alloc.Global.{Global}
use Rattle.std.proofs.Props.{props}
use Rattle.std.proofs.Math.Logic.{∥∥₁_elim}
use Rattle.std.proofs.lemmas.List.{length-map}
use Rattle.cob_tree.specs.declared.fault.Kind.{Kind}
use Rattle.cob_tree.specs.Kinds.{kinds_of, every_kind}
use Rattle.cob_program.specs.Act.{Program}
use Rattle.cob_runs.specs.declared.action.Action.{Action}
use Rattle.cob_runs.specs.declared.action.Cell.{Cell}
use Rattle.cob_graph.specs.declared.graph.Edge.{Edge}
use Rattle.cob_graph.specs.declared.graph.Graph.{Graph}
use Rattle.cob_graph.specs.Graphs.{cells_of as program_cells}
use Rattle.edge_parts.specs.PartView.{edge_parts}
use Rattle.edge_parts.specs.declared.work.EdgeWork.{EdgeWork}
use Rattle.graph_runs.specs.Sources.{IsSourceGraph}
use Rattle.interval_domain.specs.declared.bounds.Interval.{Interval}
use Rattle.interval_domain.specs.Known.{Known}
use Rattle.interval_domain.specs.Elements.{CellsFit}
use Rattle.interval_domain.specs.Rows.{IsReached, cells_of}
use Rattle.interval_domain.proofs.AllCells.{fits_length}
use Rattle.cob_graph.specs.Homes.{homes_of}
use Rattle.cell_steps.specs.OwnRanges.{home_range, owns}
use Rattle.cell_laws.specs.Layer.{row_for, edge_cells, edge_clears}
use Rattle.cell_laws.specs.Sizes.{IsSmallPart}
use Rattle.cell_layer.specs.Forgetting.{AreMarks}
use Rattle.cell_layer.specs.SmallCells.{has_small_cells}
use Rattle.cell_layer.specs.Edges.{CanWalk, statement_post, statement_clears}
use Rattle.cell_layer.specs.Works.{program_of, statement_of, act_of, IsWorkOf}
use Rattle.cell_layer.proofs.SmallHomes.{cells_are_small}
use Rattle.cell_layer.specs.AtMostOne.{parts_prop}
use Rattle.cell_layer.proofs.KindSets.{same_tests}
use Rattle.cell_layer.proofs.Finding.{edge_by, edge_by_none, clears_by, clears_by_none, small_at}

module _ (p : Program) (g : Graph) (x : Edge) where
  -- ---- an edge with a work

  module _ (w : EdgeWork) (work : ∥ IsWorkOf p g x (Some w) ∥₁) where
    same_owns : owns p ≡ owns (program_of w)
    same_owns = ∥∥₁_elim work (hlevel props) (λ is. sym (ap owns is.program))

    -- the marks of the graph's cells are those of the work's program
    pub marks_of_work : (cells found : List Cell) (rows lent : List (Vec Bool Global)) → found ≡ cells → lent ≡ rows → AreMarks p cells rows →
        AreMarks (program_of w) found lent
    marks_of_work cells found rows lent same these marked =
        ∥∥₁_elim work (hlevel props)
        (λ is. subst (λ q. AreMarks q found lent) (sym is.program)
        (subst (λ cs. AreMarks p cs lent) (sym same) (subst (AreMarks p cells) (sym these) marked)))

    module _ (source : ∥ IsSourceGraph p g ∥₁) where
      program_has_cells : g.cells ≡ program_cells (program_of w)
      program_has_cells =
          ∥∥₁_elim source (hlevel props) (λ s. ∥∥₁_elim work (hlevel props) (λ is. s.graph.cells ∙ sym (ap program_cells is.program)))

      small_cells : has_small_cells (program_of w) ≡ true
      small_cells =
          ∥∥₁_elim source (hlevel props) (λ s. ∥∥₁_elim work (hlevel props) (λ is. ap has_small_cells is.program ∙ cells_are_small p s.items))

      abbrev AreSmall : Program → Action → Type 0
      AreSmall q a = AllByRecursion (IsSmallPart q (act_of w) a) (edge_parts q (statement_of w) a)

      small_parts : AllByRecursion (IsSmallPart (program_of w) (act_of w) w.action) (edge_parts (program_of w) (statement_of w) w.action)
      small_parts =
          let one = parts_prop (program_of w) (act_of w) w.action (edge_parts (program_of w) (statement_of w) w.action) in
          ∥∥₁_elim source one (λ s. ∥∥₁_elim work one (λ is.
          subst (λ q. AreSmall q w.action) (sym is.program) (subst (AreSmall p) (sym is.action) (small_at p g x s (statement_of w) is.left))))

      -- a row of the graph's cells can be led along it
      pub can_walk : (cells : List Cell) (row : List ℤ) → cells ≡ g.cells → IsReached row → CellsFit (owns p) (cells_of row) →
          CanWalk (program_of w) cells (statement_of w) w.action row
      can_walk cells row same reached fits =
          let fit = subst (λ (os : List Interval). CellsFit os (cells_of row)) same_owns fits in
          let cells_many = fits_length (owns (program_of w)) (cells_of row) fit in
          let homes_many = length-map (homes_of (program_of w)) (home_range (program_of w).layout) in
          record {
            row_of = record { cells_are = same ∙ program_has_cells; reached = reached; count = cells_many ∙ homes_many };
            fits = fit;
            small_cells = small_cells;
            small = small_parts;
          }

    pub posts_by : (cells : List Known) →
        row_for (program_of w) (statement_post (program_of w) (statement_of w) w.action cells) ≡ row_for p (edge_cells p g x cells)
    posts_by cells =
        ∥∥₁_elim work (hlevel props) (λ is.
        ap (λ q. row_for q (statement_post q (statement_of w) w.action cells)) is.program
        ∙ ap (λ a. row_for p (statement_post p (statement_of w) a cells)) is.action
        ∙ ap (row_for p) (sym (edge_by p g x (statement_of w) cells is.left)))

    clears_it : (cells : List Known) (kind : Kind) →
        statement_clears (program_of w) (statement_of w) w.action cells kind ≡ edge_clears p g kind cells x
    clears_it cells kind =
        ∥∥₁_elim work (hlevel props) (λ is.
        ap (λ q. statement_clears q (statement_of w) w.action cells kind) is.program
        ∙ ap (λ a. statement_clears p (statement_of w) a cells kind) is.action
        ∙ sym (clears_by p g x (statement_of w) cells kind is.left))

    pub cleared_by : (cells : List Known) →
        kinds_of (statement_clears (program_of w) (statement_of w) w.action cells) ≡ kinds_of (λ kind. edge_clears p g kind cells x)
    cleared_by cells =
        same_tests (statement_clears (program_of w) (statement_of w) w.action cells) (λ kind. edge_clears p g kind cells x) (clears_it cells)

  -- ---- an edge that leaves no statement

  module _ (none : ∥ IsWorkOf p g x None ∥₁) where
    pub posts_none : (cells : List Known) → row_for p (Some cells) ≡ row_for p (edge_cells p g x cells)
    posts_none cells = ∥∥₁_elim none (hlevel props) (λ is. ap (row_for p) (sym (edge_by_none p g x cells is.left)))

    pub cleared_by_none : (cells : List Known) → every_kind ≡ kinds_of (λ kind. edge_clears p g kind cells x)
    cleared_by_none cells =
        same_tests (λ kind. true) (λ kind. edge_clears p g kind cells x)
        (λ kind. ∥∥₁_elim none (hlevel props) (λ is. sym (clears_by_none p g x cells kind is.left)))
