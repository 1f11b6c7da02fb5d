use Rattle.cob_well_formed.proofs.ShortTokens.{short_tokens}
use Rattle.cob_well_formed.proofs.laws.numerals_are_short.Goals as goal

pub returns : goal.returns
returns c = short_tokens
