use Rattle.std.proofs.Common.{sym, ◌∙◌}
use Rattle.cob_parse_expr.specs.Steps.{signs}
use Rattle.cob_parse_expr.proofs.LexemeSteps.{signs_length}
use Rattle.cob_parse_expr.proofs.StepLemmas.{unclosed_on, unclosed_off, unclosed_lacks}
use Rattle.cob_parse_expr.proofs.cond.unclosed.Goals as goal

pub returns-in-Some-clause-value : goal.returns-in-Some-clause-value
returns-in-Some-clause-value c = signs_length c.in-Some.rest.now ∙ sym (unclosed_on c.args.takes_not (signs c.args.lexemes.now) (signs c.in-Some.rest.now) c.in-Some.ensures.found c.if-takes_not.true)

pub returns-in_default-clause-value : goal.returns-in_default-clause-value
returns-in_default-clause-value c = signs_length c.args.lexemes.now ∙ sym (unclosed_off c.args.takes_not (signs c.args.lexemes.now) c.if-takes_not.false)

pub returns-in_default-2-clause-value : goal.returns-in_default-2-clause-value
returns-in_default-2-clause-value c = signs_length c.args.lexemes.now ∙ sym (unclosed_lacks c.args.takes_not (signs c.args.lexemes.now) (rw c.in_default.is at c.behind.ensures.none))
