use Rattle.cob_program.specs.ActView.{plain_act, plain_program}
use Rattle.cob_plan.proofs.does.do_read.Goals as goal

pub returns-clause-value : goal.returns-clause-value
returns-clause-value c =
    let s = c.args.statement.now in
    c.next_after_read.ensures (plain_program c.args.world.now.program) s.number (plain_act s.act.now) c.args.world.now.world c.read.new.world.world
    c.requires.its.its (c.read.ensures.value s.number)
