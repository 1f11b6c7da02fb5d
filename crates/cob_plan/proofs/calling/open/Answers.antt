use Rattle.std.proofs.Common.{◌∙◌, sym, ap, subst}
use Rattle.cob_program.specs.ActView.{plain_program}
use Rattle.cob_program.specs.Act.{Act, open_files}
use Rattle.cob_plan.specs.Doing.{IsCall}
use Rattle.cob_program.proofs.ActViews.{open_is}
use Rattle.cob_plan.proofs.calling.open.Goals as goal

pub returns-clause-value : goal.returns-clause-value
returns-clause-value c = λ number.
    let x = c.in-OpenFiles in
    subst
    (λ (a : Act). IsCall (plain_program c.args.world.now.program) number c.args.place c.args.world.now.world
    c.open_at.new.world.world a c.open_at.result)
    (sym (open_is c.args.act.now x.openings x.is ∙ ap open_files (sym c.get.ensures)))
    (c.open_at.ensures.value number)
