use Rattle.cob_graph.proofs.OneCopy.{one_main_copy, one_count, one_graph}
use Rattle.cob_graph_laws.proofs.laws.graphs_are_one.Goals as goal

pub returns-clause-copy : goal.returns-clause-copy
returns-clause-copy c = one_main_copy

pub returns-clause-count : goal.returns-clause-count
returns-clause-count c = one_count

pub returns-clause-graph : goal.returns-clause-graph
returns-clause-graph c = one_graph
