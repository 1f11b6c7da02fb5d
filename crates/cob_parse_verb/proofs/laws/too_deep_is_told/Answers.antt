use Rattle.cob_parse_verb.proofs.HeadLevels.{heads_deepen}
use Rattle.cob_parse_verb.proofs.laws.too_deep_is_told.Goals as goal

pub returns : goal.returns
returns c = λ room more d top wide e f. heads_deepen room more d top wide e f
