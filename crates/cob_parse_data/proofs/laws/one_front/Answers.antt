use Rattle.cob_parse_data.proofs.Outcomes.{one_front}
use Rattle.cob_parse_data.proofs.laws.one_front.Goals as goal

pub returns : goal.returns
returns c = one_front
