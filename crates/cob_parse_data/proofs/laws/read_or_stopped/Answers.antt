use Rattle.cob_parse_data.proofs.Outcomes.{read_or_stopped}
use Rattle.cob_parse_data.proofs.laws.read_or_stopped.Goals as goal

pub returns : goal.returns
returns c = read_or_stopped
