use Rattle.std.proofs.Common.{rules}
use Rattle.transfer_ranges.proofs.MemberCode.{nothing_left, nothing_moved, some_moved, smaller, short_trimmed}
use Rattle.transfer_ranges.proofs.members.+none_kept.Goals as goal

pub none_kept-requires : goal.none_kept-requires
none_kept-requires g t c κs within =
    let range = g.R.Ranges.range_at c.args.ranges.now in
    let less = smaller range c.args.item c.args.pairs.now c.in-Some.units c.requires.item.ordered c.in-Some.ensures (c.is_same.ensures.other c.if-is_same.false) in
    let short = short_trimmed range c.args.item c.args.pairs.now c.in-Some.units c.requires.item c.in-Some.ensures in
    search rules

pub returns-in-None : goal.returns-in-None
returns-in-None g t c = nothing_left (g.R.Ranges.range_at c.args.ranges.now) c.args.item c.args.pairs.now c.in-None.ensures

pub returns-in-Some : goal.returns-in-Some
returns-in-Some g t c =
    nothing_moved (g.R.Ranges.range_at c.args.ranges.now) c.args.item c.args.pairs.now c.in-Some.units c.requires.item.ordered c.in-Some.ensures (c.is_same.ensures.same c.if-is_same.true)

pub returns-in-Some-2 : goal.returns-in-Some-2
returns-in-Some-2 g t c =
    some_moved (g.R.Ranges.range_at c.args.ranges.now) c.args.item c.args.pairs.now c.in-Some.units c.none_kept.result c.requires.item.ordered c.in-Some.ensures c.none_kept.ensures
