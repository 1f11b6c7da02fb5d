-- What edges make of matrices, and what they clear, by their works.
use Rattle.std.proofs.Common.{◌≡◌, true, List, ℤ, Option, Some, None, sym, ap, ◌∙◌}
use Rattle.std.specs.Option.{option_map_or}
use Rattle.std.proofs.Props.{props}
use Rattle.std.proofs.Math.Logic.{∥∥₁_elim}
use Rattle.cob_tree.specs.declared.fault.Kind.{Kind}
use Rattle.cob_tree.specs.Kinds.{kinds_of, every_kind}
use Rattle.cob_program.specs.Act.{Stmt, MkStmt, Act, Program}
use Rattle.cob_graph.specs.declared.graph.Edge.{Edge}
use Rattle.cob_graph.specs.declared.graph.Graph.{Graph}
use Rattle.edge_parts.specs.declared.work.EdgeWork.{EdgeWork}
use Rattle.interval_domain.specs.Known.{Known}
use Rattle.cell_laws.specs.Layer.{left}
use Rattle.cell_layer.specs.NumberedStatements.{act_in, number_in}
use Rattle.cell_layer.specs.Works.{program_of, statement_of, IsLeft, IsWorkOf}
use Rattle.cell_layer.proofs.KindSets.{same_tests}
use Rattle.diff_steps.specs.Packs.{Pack}
use Rattle.diff_steps.specs.Edges.{walked_packs}
use Rattle.diff_steps.specs.Clearing.{clears_edge2}
use Rattle.diff_layer.specs.Walks.{statement_walked, statement_clears2}
use Rattle.pack_laws.specs.Layer.{edge_clears2}
use Rattle.diff_layer.specs.Edges.{edge_walked}

module _ (p : Program) (g : Graph) (packs : List Pack) (x : Edge) (cells : List Known) (ms : List (List ℤ)) where
  same_walk : (y : Stmt) → number_in y ≡ left g x →
      walked_packs p packs (left g x) (act_in y) x.action (Some cells) ms ≡ statement_walked p packs y x.action cells ms
  same_walk (MkStmt n line a) is = ap (λ m. walked_packs p packs m a x.action (Some cells) ms) (sym is)

  same_clears : (y : Stmt) (fault : Kind) → number_in y ≡ left g x →
      clears_edge2 p packs (left g x) (act_in y) x.action cells ms fault ≡ statement_clears2 p packs y x.action cells ms fault
  same_clears (MkStmt n line a) fault is = ap (λ m. clears_edge2 p packs m a x.action cells ms fault) (sym is)

  walked_by : (y : Stmt) → IsLeft p g x (Some y) → edge_walked p g packs x ms cells ≡ statement_walked p packs y x.action cells ms
  walked_by y is =
      ap (λ (o : Option Act). option_map_or (λ a. walked_packs p packs (left g x) a x.action (Some cells) ms) o (Some ms)) is.act
      ∙ same_walk y is.number

  walked_by_none : IsLeft p g x None → edge_walked p g packs x ms cells ≡ Some ms
  walked_by_none is =
      ap (λ (o : Option Act). option_map_or (λ a. walked_packs p packs (left g x) a x.action (Some cells) ms) o (Some ms)) is.act

  clears_by : (y : Stmt) (fault : Kind) → IsLeft p g x (Some y) → edge_clears2 p g packs fault cells ms x ≡ statement_clears2 p packs y x.action cells ms fault
  clears_by y fault is =
      ap (λ (o : Option Act). option_map_or (λ a. clears_edge2 p packs (left g x) a x.action cells ms fault) o true) is.act
      ∙ same_clears y fault is.number

  clears_by_none : (fault : Kind) → IsLeft p g x None → edge_clears2 p g packs fault cells ms x ≡ true
  clears_by_none fault is =
      ap (λ (o : Option Act). option_map_or (λ a. clears_edge2 p packs (left g x) a x.action cells ms fault) o true) is.act

  module _ (w : EdgeWork) (work : ∥ IsWorkOf p g x (Some w) ∥₁) where
    pub walks_it : edge_walked p g packs x ms cells ≡ statement_walked (program_of w) packs (statement_of w) w.action cells ms
    walks_it = ∥∥₁_elim work (hlevel props) walks
      where
        walks : IsWorkOf p g x (Some w) → edge_walked p g packs x ms cells ≡ statement_walked (program_of w) packs (statement_of w) w.action cells ms
        walks is =
            walked_by (statement_of w) is.left
            ∙ (ap (λ a. statement_walked p packs (statement_of w) a cells ms) (sym is.action)
            ∙ ap (λ q. statement_walked q packs (statement_of w) w.action cells ms) (sym is.program))

    clears_it : (fault : Kind) → statement_clears2 (program_of w) packs (statement_of w) w.action cells ms fault ≡ edge_clears2 p g packs fault cells ms x
    clears_it fault = ∥∥₁_elim work (hlevel props) clears
      where
        clears : IsWorkOf p g x (Some w) → statement_clears2 (program_of w) packs (statement_of w) w.action cells ms fault ≡ edge_clears2 p g packs fault cells ms x
        clears is =
            ap (λ q. statement_clears2 q packs (statement_of w) w.action cells ms fault) is.program
            ∙ (ap (λ a. statement_clears2 p packs (statement_of w) a cells ms fault) is.action
            ∙ sym (clears_by (statement_of w) fault is.left))

    pub cleared_by : kinds_of (statement_clears2 (program_of w) packs (statement_of w) w.action cells ms) ≡ kinds_of (λ fault. edge_clears2 p g packs fault cells ms x)
    cleared_by = same_tests (statement_clears2 (program_of w) packs (statement_of w) w.action cells ms) (λ fault. edge_clears2 p g packs fault cells ms x) clears_it

  module _ (none : ∥ IsWorkOf p g x None ∥₁) where
    pub walks_none : edge_walked p g packs x ms cells ≡ Some ms
    walks_none = ∥∥₁_elim none (hlevel props) (λ is. walked_by_none is.left)

    pub cleared_by_none : every_kind ≡ kinds_of (λ fault. edge_clears2 p g packs fault cells ms x)
    cleared_by_none =
        same_tests (λ fault. true) (λ fault. edge_clears2 p g packs fault cells ms x)
        (λ fault. ∥∥₁_elim none (hlevel props) (λ is. sym (clears_by_none fault is.left)))
