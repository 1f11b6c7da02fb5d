use Rattle.edge_parts.specs.PartView.{plain_part}
use Rattle.edge_parts.proofs.HandingLaws.{takes_one}
use Rattle.edge_parts.proofs.taker.push_part.Goals as goal

pub returns : goal.returns
returns c = takes_one plain_part _ _ _ _ c.hand.ensures
