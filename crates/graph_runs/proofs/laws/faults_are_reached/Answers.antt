use Rattle.graph_runs.proofs.Following.{faults_are_reached}
use Rattle.graph_runs.proofs.laws.faults_are_reached.Goals as goal

pub returns : goal.returns
returns c = faults_are_reached
