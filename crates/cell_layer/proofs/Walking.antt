-- What a walk along an edge comes to, by what is kept on the way.
use Rattle.std.proofs.Common.{◌≡◌, ℕ, List, length, ℤ, Option, sym, ap, subst, ◌∙◌, arith}
use Rattle.std.specs.List.{AllByRecursion}
use Rattle.std.proofs.Props.{props}
use Rattle.std.proofs.Math.Logic.{∥∥₁_elim}
use Rattle.std.proofs.lemmas.List.{length-map}
use Rattle.cob_tree.specs.declared.kinds.Kinds.{Kinds}
use Rattle.cob_tree.specs.Kinds.{kinds_of}
use Rattle.cob_program.specs.Act.{Act, Program}
use Rattle.cob_runs.specs.declared.action.Action.{Action}
use Rattle.cob_runs.specs.declared.action.Cell.{Cell}
use Rattle.edge_parts.specs.PartView.{edge_parts}
use Rattle.edge_parts.specs.declared.work.EdgeWork.{EdgeWork}
use Rattle.interval_domain.specs.Known.{Known}
use Rattle.interval_domain.specs.Elements.{CellsFit}
use Rattle.interval_domain.specs.Rows.{cells_of, row_from, width_of}
use Rattle.interval_domain.proofs.Places.{words_length}
use Rattle.cob_graph.specs.Homes.{homes_of}
use Rattle.cell_steps.specs.OwnRanges.{home_range, owns}
use Rattle.cell_steps.specs.Seen.{Seen, beginning}
use Rattle.cell_steps.specs.Edges.{finished}
use Rattle.cell_layer.specs.ProgramRows.{IsRowOf}
use Rattle.cell_laws.specs.Sizes.{IsSmallPart}
use Rattle.cell_layer.specs.Walks.{steps_small, clears_all_small, CanStep}
use Rattle.cell_layer.proofs.SmallEdges.{posts_are_small, clears_are_small}
use Rattle.cell_layer.specs.Edges.{statement_post, statement_clears}
use Rattle.cell_layer.specs.Works.{program_of, statement_of, act_of, parts_in}
use Rattle.cell_layer.specs.AtMostOne.{parts_prop}
use Rattle.cell_layer.proofs.KindSets.{same_tests}

pub width_is : (p : Program) (cells : List Cell) (row : List ℤ) → IsRowOf p cells row → length row ≡ width_of (owns p)
width_is p cells row is =
    let whole = ap (λ (ws : List ℤ). length ws) is.reached in
    let words = words_length (cells_of row) in
    let many = length-map (homes_of p) (home_range p.layout) in
    omega (arith, whole, words, many, is.count)

-- at the beginning nothing is kept
pub can_begin : (p : Program) (a : Act) (x : Action) (s : Seen) (cells : List Known) → s ≡ beginning cells → CellsFit (owns p) cells → CanStep p a x s
can_begin p a x s cells e fits = subst (CanStep p a x) (sym e) (record { fits = fits; taken = λ w. absurd (cc) })

module _ (w : EdgeWork) (first : List Known)
    (small : AllByRecursion (IsSmallPart (program_of w) (act_of w) w.action) (edge_parts (program_of w) (statement_of w) w.action)) where
  pub small_listed : AllByRecursion (IsSmallPart (program_of w) (act_of w) w.action) (parts_in w)
  small_listed =
      ∥∥₁_elim w.listed (parts_prop (program_of w) (act_of w) w.action (parts_in w))
      (λ e. subst (AllByRecursion (IsSmallPart (program_of w) (act_of w) w.action)) (sym e) small)

  pub post_is : (n : ℕ) (o : Option Seen) → o ≡ steps_small (program_of w) (act_of w) w.action (parts_in w) (beginning first) →
      row_from n (finished (program_of w) (act_of w) w.action o) ≡ row_from n (statement_post (program_of w) (statement_of w) w.action first)
  post_is n o is =
      let p = program_of w in
      ∥∥₁_elim w.listed (hlevel props) (λ e.
      ap (row_from n) (ap (finished p (act_of w) w.action) (is ∙ ap (λ ps. steps_small p (act_of w) w.action ps (beginning first)) e)
      ∙ posts_are_small p (act_of w) w.action (edge_parts p (statement_of w) w.action) first small))

  pub clears_is : (cleared : Kinds) → cleared ≡ kinds_of (clears_all_small (program_of w) (act_of w) w.action (parts_in w) (beginning first)) →
      cleared ≡ kinds_of (statement_clears (program_of w) (statement_of w) w.action first)
  clears_is cleared is =
      let p = program_of w in
      is ∙ same_tests (clears_all_small p (act_of w) w.action (parts_in w) (beginning first)) (statement_clears p (statement_of w) w.action first)
      (λ kind. ∥∥₁_elim w.listed (hlevel props) (λ e.
      ap (λ ps. clears_all_small p (act_of w) w.action ps (beginning first) kind) e
      ∙ clears_are_small p (act_of w) w.action (edge_parts p (statement_of w) w.action) first kind small))
