use Rattle.cob_well_formed.proofs.Ways.{runs_are_ways}
use Rattle.cob_well_formed.proofs.laws.runs_of_sources_are_ways.Goals as goal

pub returns : goal.returns
returns c = runs_are_ways
