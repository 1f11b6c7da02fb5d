use Rattle.cell_laws.proofs.EachEdge.{none_cleared_is_met}
use Rattle.cell_laws.proofs.laws.cleared_faults_are_not_met.Goals as goal

pub returns : goal.returns
returns c = none_cleared_is_met
