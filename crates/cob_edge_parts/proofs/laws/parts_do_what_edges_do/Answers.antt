use Rattle.cob_edge_parts.proofs.AllEdges.{parts_are_passed, parts_are_passed_beside, faults_are_met}
use Rattle.cob_edge_parts.proofs.laws.parts_do_what_edges_do.Goals as goal

pub returns-clause-passed : goal.returns-clause-passed
returns-clause-passed c = parts_are_passed

pub returns-clause-beside : goal.returns-clause-beside
returns-clause-beside c = parts_are_passed_beside

pub returns-clause-met : goal.returns-clause-met
returns-clause-met c = faults_are_met
