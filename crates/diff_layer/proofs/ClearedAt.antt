-- What a part clears, by either layer.
use Rattle.std.proofs.Common.{◌≡◌, Bool, true, false, List, ℤ, sym, ap, ◌∙◌}
use Rattle.cob_tree.specs.declared.fault.Kind.{Kind}
use Rattle.cob_data.specs.declared.extent.Extent.{Extent}
use Rattle.cob_program.specs.declared.act.Stmt as declared_stmt
use Rattle.cob_program.specs.declared.act.Stmt.{out-Stmt}
use Rattle.cob_program.specs.declared.act.Act.TheFolds.{fold_out-Stmt}
use Rattle.cob_program.specs.ActView.{plain_act, plain_stmt}
use Rattle.cob_program.specs.Act.{Act, Program}
use Rattle.cob_runs.specs.declared.action.Action.{Action}
use Rattle.cob_edge_parts.specs.Parts.{Part}
use Rattle.cell_steps.specs.Seen.{Seen}
use Rattle.cell_laws.specs.Sizes.{IsSmallPart}
use Rattle.cell_layer.specs.NumberedStatements.{act_in}
use Rattle.cell_layer.specs.Walks.{clears_small, CanStep}
use Rattle.diff_steps.specs.Packs.{Pack}
use Rattle.diff_steps.specs.Clearing.{clears_part2}
use Rattle.diff_layer.specs.Clears.{part_cleared}
use Rattle.diff_layer.specs.Parts.{IsOfEdge}
use Rattle.diff_layer.specs.Walks.{seen2}
use Rattle.diff_layer.proofs.Cleared.{small_clears, part_cleared_is, cleared_too}

-- what a statement does, seen through it
pub act_is : (s : declared_stmt.Stmt) → plain_act (out-Stmt s).act ≡ act_in (plain_stmt s)
act_is s = sym (ap act_in (fold_out-Stmt _ _ _ _ _ _ _ _ s))

module _ (p : Program) (packs : List Pack) (a : Act) (x : Action) (y : Part) (s : Seen) (wrote : List Extent) (ms : List (List ℤ)) (fault : Kind) (small : IsSmallPart p a x y) where
  -- both layers clear a fault that the first one clears
  pub clears_too : clears_small p a x y s fault ≡ true → true ≡ clears_part2 p packs a x y s (seen2 wrote ms) fault
  clears_too e = sym (cleared_too p packs a x s wrote ms y fault (sym (small_clears p a x y s fault small) ∙ e))

  -- both layers clear what the matrices clear where the first one doesn't
  pub clears_else : (b : Bool) → IsOfEdge p a x y → CanStep p a x s → clears_small p a x y s fault ≡ false → b ≡ part_cleared p packs a x y s (seen2 wrote ms) fault →
      b ≡ clears_part2 p packs a x y s (seen2 wrote ms) fault
  clears_else b of_edge can e is = is ∙ part_cleared_is p packs a x s wrote ms y fault small of_edge can (sym (small_clears p a x y s fault small) ∙ e)
