-- What the work of an edge of a source's graph gives a walk with packs.
use Rattle.std.proofs.Common.{List, Some, sym, subst}
use Rattle.std.specs.List.{AllByRecursion}
use Rattle.std.proofs.Math.Logic.{∥∥₁_elim}
use Rattle.cob_program.specs.Act.{Stmt, MkStmt, Program}
use Rattle.cob_runs.specs.declared.action.Action.{Action}
use Rattle.cob_graph.specs.declared.graph.Edge.{Edge}
use Rattle.cob_graph.specs.declared.graph.Graph.{Graph}
use Rattle.edge_parts.specs.PartView.{edge_parts}
use Rattle.edge_parts.specs.declared.work.EdgeWork.{EdgeWork}
use Rattle.graph_runs.specs.Sources.{IsSourceGraph}
use Rattle.cell_laws.specs.Layer.{left}
use Rattle.cell_layer.specs.NumberedStatements.{act_in}
use Rattle.cell_layer.specs.Works.{program_of, statement_of, act_of, IsLeft, IsWorkOf}
use Rattle.diff_layer.specs.declared.pack.plans.PackPlan.{PackPlan}
use Rattle.diff_layer.specs.Parts.{IsOfEdge}
use Rattle.diff_layer.specs.AtMostOne.{all_of_edge_prop, plans_prop}
use Rattle.diff_layer.specs.Plans.{ArePlansOf}
use Rattle.diff_layer.specs.Works.{parts_of_edge}
use Rattle.diff_layer.proofs.SourceOperands.{operands_of_sources}

-- ---- an edge of a source's graph

of_statement : (p : Program) (g : Graph) (x : Edge) → IsSourceGraph p g → (y : Stmt) → IsLeft p g x (Some y) → AllByRecursion (IsOfEdge p (act_in y) x.action) (edge_parts p y x.action)
of_statement p g x source (MkStmt n line a) is =
    subst (λ m. AllByRecursion (IsOfEdge p a x.action) (edge_parts p (MkStmt m line a) x.action)) (sym is.number)
    (operands_of_sources p g source (left g x) a x.action is.act)

module _ (p : Program) (g : Graph) (x : Edge) (w : EdgeWork) (work : ∥ IsWorkOf p g x (Some w) ∥₁) where
  abbrev AreOf : Program → Action → Type 0
  AreOf q a = AllByRecursion (IsOfEdge q (act_of w) a) (edge_parts q (statement_of w) a)

  -- The operands of an edge's stores are the edge's own, and can be worked with.
  pub of_edge : ∥ IsSourceGraph p g ∥₁ → AllByRecursion (IsOfEdge (program_of w) (act_of w) w.action) (parts_of_edge w)
  of_edge source =
      let one = all_of_edge_prop (program_of w) (act_of w) w.action (parts_of_edge w) in
      ∥∥₁_elim source one
      (λ s. ∥∥₁_elim work one (λ is. subst (λ q. AreOf q w.action) (sym is.program) (subst (AreOf p) (sym is.action) (of_statement p g x s (statement_of w) is.left))))

  pub plans_of_work : (plans : List PackPlan) → ArePlansOf p plans → ArePlansOf (program_of w) plans
  plans_of_work plans all =
      ∥∥₁_elim work (plans_prop (program_of w) plans) (λ is. subst (λ q. ArePlansOf q plans) (sym is.program) all)
