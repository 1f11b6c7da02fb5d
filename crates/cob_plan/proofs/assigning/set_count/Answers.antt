use Rattle.std.proofs.Common.{None, sym, subst}
use Rattle.cob_program.specs.ActView.{plain_program, plain_body}
use Rattle.cob_program.specs.Act.{Act}
use Rattle.cob_runs.specs.Effects.{edge_counted}
use Rattle.cob_plan.specs.Doing.{Meets}
use Rattle.cob_program.proofs.ActViews.{perform_is}
use Rattle.cob_plan.proofs.assigning.set_count.Goals as goal

pub returns-clause-value : goal.returns-clause-value
returns-clause-value c =
    let p = c.in-Perform in
    let w = c.args.world.now.world in
    subst (λ (a : Act). Meets (edge_counted (plain_program c.args.world.now.program) c.args.number None w a) w c.count_turns.new.world.world
    c.count_turns.result)
    (sym (perform_is c.args.act.now p.body p.turns p.is)) (c.count_turns.ensures.value (plain_body p.body))
