use Rattle.transfer_ranges.proofs.Besides.{above_gives}
use Rattle.transfer_ranges.proofs.beside.above_part.Goals as goal

pub returns : goal.returns
returns c =
    above_gives c.args.a c.args.b c.if_any.result c.max-scale.result c.raised.result c.over.result c.at_scale-above.result c.common.result c.requires c.max-scale.ensures c.raised.ensures c.over.ensures c.at_scale-above.ensures c.common.ensures c.if_any.ensures
