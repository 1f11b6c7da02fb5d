use Rattle.transfer_ranges.proofs.Short.{short_relate}
use Rattle.transfer_ranges.proofs.members.outside_kept.Goals as goal

pub left_kept-requires : goal.left_kept-requires
left_kept-requires c = short_relate c.args.item c.args.low c.requires.item c.requires.low

pub left_kept-requires-2 : goal.left_kept-requires-2
left_kept-requires-2 c = short_relate c.args.item c.args.high c.requires.item c.requires.high
