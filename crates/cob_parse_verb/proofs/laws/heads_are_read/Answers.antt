use Rattle.cob_parse_verb.proofs.HeadLaws.{law_of_heads}
use Rattle.cob_parse_verb.proofs.laws.heads_are_read.Goals as goal

pub returns : goal.returns
returns c = λ room d top e. law_of_heads room d top e
