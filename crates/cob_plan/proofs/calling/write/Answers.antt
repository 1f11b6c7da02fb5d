use Rattle.std.proofs.Common.{sym, subst}
use Rattle.std.specs.Prelude.{IfOk}
use Rattle.cob_program.specs.ActView.{plain_program}
use Rattle.cob_program.specs.Act.{Act}
use Rattle.cob_plan.specs.Doing.{IsCall}
use Rattle.cob_program.proofs.ActViews.{write_is}
use Rattle.cob_plan.proofs.calling.write.Goals as goal

pub returns-clause-value : goal.returns-clause-value
returns-clause-value c = λ number.
    let x = c.in-Write in
    subst
    (λ (a : Act). IfOk c.write_record.result (λ called. IsCall (plain_program c.args.world.now.program) number 0
    c.args.world.now.world c.write_record.new.world.world a called))
    (sym (write_is c.args.act.now x.rec x.from x.is))
    (c.write_record.ensures.value number x.from)
