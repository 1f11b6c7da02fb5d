use Rattle.edge_parts.specs.PartView.{plain_reference}
use Rattle.edge_parts.proofs.HandingLaws.{takes_one}
use Rattle.edge_parts.proofs.taker.push_test.Goals as goal

pub returns : goal.returns
returns c = takes_one plain_reference _ _ _ _ c.hand.ensures
