use Rattle.cob_graph_laws.proofs.Simulated.{simulates}
use Rattle.cob_graph_laws.proofs.laws.runs_are_ways.Goals as goal

pub returns : goal.returns
returns c = simulates
