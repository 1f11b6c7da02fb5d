use Rattle.std.proofs.Common.{true}
use Rattle.cob_tree.specs.declared.token.Rel.TheVariants as rel
use Rattle.sum_ranges.specs.Ranged.{ranged}
use Rattle.transfer_ranges.proofs.Short.{short_relate, short_kept}
use Rattle.transfer_ranges.proofs.members.within_kept.Goals as goal

pub left_kept-requires : goal.left_kept-requires
left_kept-requires c = short_relate c.args.item c.args.low c.requires.item c.requires.low

pub left_kept-requires-in-Some : goal.left_kept-requires-in-Some
left_kept-requires-in-Some c =
    short_relate (ranged c.in-Some.units c.args.item.scale) c.args.high (short_kept rel.AtLeast true c.args.item c.args.low c.in-Some.units c.requires.item c.in-Some.ensures) c.requires.high
