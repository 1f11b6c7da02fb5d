-- What contracts see of a run.
use Rattle.std.specs.Prelude.{List, map, reverse}
use Rattle.cob_program.specs.ActView.{plain_stmts, plain_body, plain_turns}
use Rattle.cob_runs.specs.State.{Doing, rest, paras, testing, augmenting, State, state}
use Rattle.cob_step.specs.declared.control.Todo.{Todo}
use Rattle.cob_step.specs.declared.control.Todo.TheVariants as variant
use Rattle.cob_step.specs.declared.control.Control.{Control}
use Rattle.cob_step.specs.declared.run.Run.{Run}

abbrev pub plain_doing : Todo → Doing
plain_doing (variant.Rest list) = rest (plain_stmts list.now)
plain_doing (variant.Paras first last) = paras first last
plain_doing (variant.Testing number body turns) = testing number (plain_body body.now) (plain_turns turns.now)
plain_doing (variant.Augmenting number body turns) = augmenting number (plain_body body.now) (plain_turns turns.now)

-- What is to be done first is the last item of a control.
abbrev pub plain_control : Control → List Doing
plain_control c = reverse (map plain_doing c.items.items)

abbrev pub plain_run : Run → State
plain_run r = state r.world.world (plain_control r.control) r.outcome
