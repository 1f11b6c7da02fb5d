use Rattle.cob_well_formed.proofs.Running.{can_be_run}
use Rattle.cob_well_formed.proofs.laws.sources_can_be_run.Goals as goal

pub returns : goal.returns
returns c = can_be_run
