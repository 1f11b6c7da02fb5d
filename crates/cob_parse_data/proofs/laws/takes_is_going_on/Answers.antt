use Rattle.cob_parse_data.proofs.GoesOn.{takes_is_going_on}
use Rattle.cob_parse_data.proofs.laws.takes_is_going_on.Goals as goal

pub returns : goal.returns
returns c = takes_is_going_on
