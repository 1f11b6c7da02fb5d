use Rattle.transfer_ranges.proofs.SideCode.{left_gives}
use Rattle.transfer_ranges.proofs.sides.left_kept.Goals as goal

pub returns : goal.returns
returns c =
    left_gives c.args.rel c.args.wanted c.args.a c.args.b c.allowed.result c.beside.result c.allowed.ensures.below c.allowed.ensures.equal c.allowed.ensures.above c.beside.ensures
