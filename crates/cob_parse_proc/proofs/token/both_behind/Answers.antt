use Rattle.std.proofs.Common.{◌∙◌}
use Rattle.cob_parse_expr.specs.Steps.{signs}
use Rattle.cob_parse_proc.specs.Reading.{one_word}
use Rattle.cob_parse_proc.proofs.StmtAnswers.{both_some, both_none}
use Rattle.cob_parse_proc.proofs.token.both_behind.Goals as goal

pub returns-in-Some-clause-cut : goal.returns-in-Some-clause-cut
returns-in-Some-clause-cut c = c.behind-in-Some.ensures.cut ∙ both_some (one_word c.args.first) (one_word c.args.second) (signs c.args.lexemes.now) (signs c.in-Some.rest.now) c.in-Some.ensures.cut

pub returns-in-None-clause-cut : goal.returns-in-None-clause-cut
returns-in-None-clause-cut c = both_none (one_word c.args.first) (one_word c.args.second) (signs c.args.lexemes.now) c.in-None.ensures.cut
