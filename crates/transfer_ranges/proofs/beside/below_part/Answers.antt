use Rattle.transfer_ranges.proofs.Besides.{below_gives}
use Rattle.transfer_ranges.proofs.beside.below_part.Goals as goal

pub returns : goal.returns
returns c =
    below_gives c.args.a c.args.b c.if_any.result c.max-scale.result c.raised.result c.under.result c.at_scale-below.result c.common.result c.requires c.max-scale.ensures c.raised.ensures c.under.ensures c.at_scale-below.ensures c.common.ensures c.if_any.ensures
