use Rattle.graph_runs.proofs.Ordering.{graphs_are_flows}
use Rattle.graph_runs.proofs.laws.graphs_are_flows.Goals as goal

pub returns : goal.returns
returns c = graphs_are_flows
