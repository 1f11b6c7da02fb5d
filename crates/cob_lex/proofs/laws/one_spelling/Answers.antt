use Rattle.cob_lex.proofs.Spelling.{one_spelling}
use Rattle.cob_lex.proofs.laws.one_spelling.Goals as goal

pub returns : goal.returns
returns c = one_spelling
