use Rattle.transfer_ranges.proofs.Besides.{equal_gives}
use Rattle.transfer_ranges.proofs.beside.equal_part.Goals as goal

pub returns : goal.returns
returns c =
    equal_gives c.args.a c.args.b c.multiples.result c.max-scale.result c.at_scale.result c.at_scale-2.result c.common-units.result c.requires c.max-scale.ensures c.at_scale.ensures c.at_scale-2.ensures c.common-units.ensures c.multiples.ensures
