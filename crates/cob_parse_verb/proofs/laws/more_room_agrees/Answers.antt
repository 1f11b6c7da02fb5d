use Rattle.cob_parse_verb.proofs.Agreeing.{heads_agree}
use Rattle.cob_parse_verb.proofs.laws.more_room_agrees.Goals as goal

pub returns : goal.returns
returns c = λ room wide le. heads_agree room wide le
