use Rattle.cob_parse_verb.proofs.SelLaws.{law_of_choices}
use Rattle.cob_parse_verb.proofs.laws.choices_are_read.Goals as goal

pub returns : goal.returns
returns c = λ room d top e. law_of_choices room d top e
