use Rattle.std.proofs.Common.{◌∙◌}
use Rattle.cob_parse_expr.proofs.WordLemmas.{one_by_text}
use Rattle.cob_parse_expr.proofs.word.same_key.Goals as goal

pub returns : goal.returns
returns c = c.eq.ensures ∙ one_by_text c.args.first c.args.second
