use Rattle.std.proofs.Common.{◌∙◌, sym, ap, subst}
use Rattle.cob_program.specs.ActView.{plain_program}
use Rattle.cob_program.specs.Act.{Act, close_files}
use Rattle.cob_plan.specs.Doing.{IsCall}
use Rattle.cob_program.proofs.ActViews.{close_is}
use Rattle.cob_plan.proofs.calling.close.Goals as goal

pub returns-clause-value : goal.returns-clause-value
returns-clause-value c = λ number.
    let x = c.in-CloseFiles in
    subst
    (λ (a : Act). IsCall (plain_program c.args.world.now.program) number c.args.place c.args.world.now.world
    c.close_at.new.world.world a c.close_at.result)
    (sym (close_is c.args.act.now x.files x.is ∙ ap close_files (sym c.get.ensures)))
    (c.close_at.ensures.value number)
