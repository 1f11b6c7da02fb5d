use Rattle.edge_parts.proofs.EdgeTests.{listed_by}
use Rattle.edge_parts.proofs.work.EdgeWork.among.Goals as goal

pub invariant_of-result : goal.invariant_of-result
invariant_of-result c = record { listed = listed_by _ _ _ _ c.test_of.ensures c.in_ok-parts.ensures }
