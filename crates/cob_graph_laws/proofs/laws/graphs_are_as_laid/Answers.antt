use Rattle.cob_graph_laws.proofs.InGraphs.{nodes_are_laid, edges_are_laid}
use Rattle.cob_graph_laws.proofs.laws.graphs_are_as_laid.Goals as goal

pub returns-clause-nodes : goal.returns-clause-nodes
returns-clause-nodes c = nodes_are_laid

pub returns-clause-edges : goal.returns-clause-edges
returns-clause-edges c = edges_are_laid
