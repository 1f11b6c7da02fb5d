use Rattle.transfer_ranges.proofs.Besides.{beside_gives}
use Rattle.transfer_ranges.proofs.beside.beside.Goals as goal

pub returns : goal.returns
returns c =
    beside_gives c.args.orders c.args.a c.args.b c.below_part.result c.equal_part.result c.above_part.result c.chosen.result c.chosen-2.result c.chosen-3.result c.either.result c.either-2.result
    c.below_part.ensures c.equal_part.ensures c.above_part.ensures c.chosen.ensures c.chosen-2.ensures c.chosen-3.ensures c.either.ensures c.either-2.ensures
