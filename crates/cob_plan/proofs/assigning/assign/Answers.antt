use Rattle.std.proofs.Common.{None, sym, subst}
use Rattle.cob_program.specs.ActView.{plain_program, plain_body}
use Rattle.cob_program.specs.Act.{Act}
use Rattle.cob_runs.specs.Effects.{edge_assigned}
use Rattle.cob_plan.specs.Doing.{Meets}
use Rattle.cob_program.proofs.ActViews.{perform_is}
use Rattle.cob_plan.proofs.assigning.assign.Goals as goal

pub returns-in-Perform-clause-value : goal.returns-in-Perform-clause-value
returns-in-Perform-clause-value c = λ number.
    let p = c.in-Perform in
    let w = c.args.world.now.world in
    subst (λ (a : Act). Meets (edge_assigned (plain_program c.args.world.now.program) number None w a) w c.begin_turns.new.world.world
    c.begin_turns.result)
    (sym (perform_is c.args.act.now p.body p.turns p.is)) (c.begin_turns.ensures.value number (plain_body p.body))
