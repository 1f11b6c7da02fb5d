use Rattle.cob_lex.proofs.Spellable.{canonical_spellable}
use Rattle.cob_lex.proofs.laws.canonical_tokens_are_spellable.Goals as goal

pub returns : goal.returns
returns c = canonical_spellable
