use Rattle.cob_parse_data.proofs.Outcomes.{one_stop}
use Rattle.cob_parse_data.proofs.laws.one_stop.Goals as goal

pub returns : goal.returns
returns c = one_stop
