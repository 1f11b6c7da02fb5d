use Rattle.transfer_ranges.proofs.SideCode.{right_gives, relate_back}
use Rattle.transfer_ranges.proofs.sides.right_kept.Goals as goal

pub beside-requires : goal.beside-requires
beside-requires c = relate_back c.args.a c.args.b c.requires

pub returns : goal.returns
returns c =
    right_gives c.args.rel c.args.wanted c.args.a c.args.b c.allowed.result c.mirrored.result c.beside.result c.allowed.ensures.below c.allowed.ensures.equal c.allowed.ensures.above
    c.mirrored.ensures.below c.mirrored.ensures.equal c.mirrored.ensures.above c.beside.ensures
