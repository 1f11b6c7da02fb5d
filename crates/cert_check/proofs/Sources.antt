-- The shape of a certificate by numbers.
use Rattle.std.proofs.Common.{◌≡◌, ℕ, length, sym, ◌∙◌, subst}
use Rattle.std.specs.Prelude.{Result, Ok, Err, MatchResult}
use Rattle.cob_program.specs.Act.{Program}
use Rattle.cob_graph.specs.declared.graph.Graph.{Graph}
use Rattle.cob_graph.specs.Graphs.{cells_of}
use Rattle.graph_runs.specs.Sources.{IsSourceGraph}
use Rattle.cell_ranges.proofs.Sources.{cell_count}
use Rattle.cert_text.specs.View.{Certificate}
use Rattle.cert_check.specs.declared.ends.CheckEnd.{CheckEnd}
use Rattle.cert_check.specs.declared.ends.CheckEnd.TheVariants as check
use Rattle.cert_check.specs.declared.ends.Shape.TheVariants as shape
use Rattle.cert_check.specs.Counts.{HasCounts, MisfitsCounts}
use Rattle.cert_check.specs.Checking.{HasShape, Refuses}
-- The law of short cells is passed on from `cell_ranges`.
pub use Rattle.cell_ranges.proofs.Sources.{graph_cells_short}

module _ (p : Program) (g : Graph) (c : Certificate) (cells nodes : ℕ) (cells_are : cells ≡ length (cells_of p))
    (nodes_are : nodes ≡ length g.nodes) where
  pub shape_is : HasCounts c cells nodes → HasShape p g c
  shape_is has = record { cells = has.cells_are ∙ cells_are; nodes = has.nodes_are ∙ nodes_are }

  pub misfit_is : (end : CheckEnd) → MisfitsCounts c cells nodes end → Refuses p g c end
  misfit_is (check.Shape shape.Cells found wanted) (found_is, wanted_is, differ) = (found_is, wanted_is ∙ cells_are, differ)
  misfit_is (check.Shape shape.Nodes found wanted) (fit, found_is, wanted_is, differ) = (fit ∙ cells_are, found_is, wanted_is ∙ nodes_are, differ)
  misfit_is (check.NotInductive layer edge gap) h = absurd h
  misfit_is check.Memory h = tt

module _ (p : Program) (g : Graph) (c : Certificate) (source : ∥ IsSourceGraph p g ∥₁) {T : Type 0} (r : Result T CheckEnd)
    (cells nodes : ℕ) (cells_are : cells ≡ length g.cells) (nodes_are : nodes ≡ length g.nodes)
    (says : MatchResult r (λ _. HasCounts c cells nodes) (MisfitsCounts c cells nodes)) where
  pub misfit_answer : (end : CheckEnd) → r ≡ Err end → Refuses p g c end
  misfit_answer end e =
      misfit_is p g c cells nodes (cells_are ∙ cell_count p g source) nodes_are end
      (subst (λ (x : Result T CheckEnd). MatchResult x (λ _. HasCounts c cells nodes) (MisfitsCounts c cells nodes)) e says)

  pub shape_answer : (x : T) → r ≡ Ok x → HasShape p g c
  shape_answer x e =
      shape_is p g c cells nodes (cells_are ∙ cell_count p g source) nodes_are
      (subst (λ (x : Result T CheckEnd). MatchResult x (λ _. HasCounts c cells nodes) (MisfitsCounts c cells nodes)) e says)
