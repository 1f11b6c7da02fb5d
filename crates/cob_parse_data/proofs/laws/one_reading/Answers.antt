use Rattle.cob_parse_data.proofs.Outcomes.{one_read}
use Rattle.cob_parse_data.proofs.laws.one_reading.Goals as goal

pub returns : goal.returns
returns c = one_read
