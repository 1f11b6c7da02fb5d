use Rattle.cob_lex.proofs.TextRow.{whole_content}
use Rattle.cob_lex.proofs.laws.texts_stand_doubled.Goals as goal

pub returns : goal.returns
returns c = whole_content
