use Rattle.cob_graph_build.proofs.Totality.{main_copies, nodes_counted}
use Rattle.cob_graph_build.proofs.laws.nested_programs_have_main_copies.Goals as goal

pub returns-clause-copies : goal.returns-clause-copies
returns-clause-copies c = main_copies

pub returns-clause-nodes : goal.returns-clause-nodes
returns-clause-nodes c = nodes_counted
