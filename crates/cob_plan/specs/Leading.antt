-- Ways on from a node of a statement.
use Rattle.std.specs.Prelude.{◌≡◌, ℕ, true, Contains, Some}
use Rattle.cob_program.specs.Act.{Act, Program}
use Rattle.cob_runs.specs.declared.action.Action.{Action}
use Rattle.cob_runs.specs.Effects.{act_at, is_handled}
use Rattle.cob_plan.specs.declared.node.Op.{Op}
use Rattle.cob_plan.specs.Plan.{op_edges}

-- An edge by an action leads on from a statement's node, and no status on it ends the run.
pub record Leads (p : Program) (number : ℕ) (a : Act) (o : Op) (x : Action) (to : ℕ) : Type 0 where
  pub its : act_at p number ≡ Some a
  pub out : Contains (op_edges o) (x, to)
  pub handled : is_handled p number x ≡ true
