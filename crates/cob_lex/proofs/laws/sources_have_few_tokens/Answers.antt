use Rattle.cob_lex.proofs.TokenCounts.{few_tokens}
use Rattle.cob_lex.proofs.laws.sources_have_few_tokens.Goals as goal

pub returns : goal.returns
returns c = few_tokens
