use Rattle.cob_lex.proofs.Spelling.{one_stop, not_both}
use Rattle.cob_lex.proofs.laws.one_stop.Goals as goal

pub returns : goal.returns
returns c = record { one = one_stop; not_both = not_both }
