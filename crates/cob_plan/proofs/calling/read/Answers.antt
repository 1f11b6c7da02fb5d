use Rattle.std.proofs.Common.{sym, subst}
use Rattle.cob_program.specs.ActView.{plain_program, plain_stmts}
use Rattle.cob_program.specs.Act.{Act}
use Rattle.cob_plan.specs.Doing.{IsTaking}
use Rattle.cob_program.proofs.ActViews.{read_is}
use Rattle.cob_plan.proofs.calling.read.Goals as goal

pub returns-clause-value : goal.returns-clause-value
returns-clause-value c = λ number.
    let r = c.in-Read in
    subst (λ (a : Act). IsTaking (plain_program c.args.world.now.program) number 0 c.args.world.now.world c.take.new.world.world a c.take.result)
    (sym (read_is c.args.act.now r.file r.into r.end r.fine r.is))
    (c.take.ensures.value number r.into (plain_stmts r.fine.items))
