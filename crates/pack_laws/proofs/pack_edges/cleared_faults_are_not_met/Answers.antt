use Rattle.pack_laws.proofs.PacksClearAll.{none_cleared_is_met}
use Rattle.pack_laws.proofs.pack_edges.cleared_faults_are_not_met.Goals as goal

pub returns : goal.returns
returns c = none_cleared_is_met
