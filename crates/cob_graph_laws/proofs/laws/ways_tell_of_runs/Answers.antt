use Rattle.cob_graph_laws.proofs.Simulated.{simulates}
use Rattle.cob_graph_laws.proofs.Told.{telling}
use Rattle.cob_graph_laws.proofs.laws.ways_tell_of_runs.Goals as goal

pub returns : goal.returns
returns c = telling simulates
