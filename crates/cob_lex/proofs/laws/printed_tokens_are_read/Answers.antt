use Rattle.cob_lex.proofs.Spellable.{printed_source}
use Rattle.cob_lex.proofs.laws.printed_tokens_are_read.Goals as goal

pub returns : goal.returns
returns c = printed_source
