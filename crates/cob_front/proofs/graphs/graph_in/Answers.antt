use Rattle.cob_program.specs.ActView.{plain_program}
use Rattle.cob_front.proofs.ControlAnswers.{told_as, refused_inside, refused_outside}
use Rattle.cob_front.proofs.graphs.graph_in.Goals as goal

pub returns-in-Ok-clause-refused : goal.returns-in-Ok-clause-refused
returns-in-Ok-clause-refused c =
    refused_inside (plain_program c.args.program.now) c.laid_out.result c.in-Ok.ensures.kept c.laid_out.ensures.limits

pub returns-in-Err-Outside-clause-refused : goal.returns-in-Err-Outside-clause-refused
returns-in-Err-Outside-clause-refused c =
    refused_outside (plain_program c.args.program.now) c.nested.result _ _
    (told_as c.nested.result c.in-Err-Outside.field-0 c.in-Err-Outside.rule _ c.in-Err-Outside.line _
    c.in-Err-Outside.is c.in-Err-Outside.field-0-is c.in-Err-Outside.rule-is c.in-Err-Outside.line-is)
    c.nested.ensures.outside c.nested.ensures.exact
