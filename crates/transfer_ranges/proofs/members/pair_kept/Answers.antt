use Rattle.std.proofs.Common.{◌≡◌, sym, subst}
use Rattle.transfer_ranges.specs.Trimming.{pair_kept}
use Rattle.transfer_ranges.proofs.Short.{short_relate}
use Rattle.transfer_ranges.proofs.MemberCode.{pair_one, pair_within, pair_outside}
use Rattle.transfer_ranges.proofs.members.pair_kept.Goals as goal

pub left_kept-requires : goal.left_kept-requires
left_kept-requires g c = short_relate c.args.item c.end_range-low.result c.requires.item c.end_range-low.ensures.short

pub returns-then-is_same_item : goal.returns-then-is_same_item
returns-then-is_same_item g c =
    pair_one (g.R.Ranges.range_at c.args.ranges.now) c.args.pair.now c.args.wanted c.args.item c.end_range-low.result c.left_kept.result c.if-is_same_item.ensures c.end_range-low.ensures.value c.left_kept.ensures

pub returns-then-wanted : goal.returns-then-wanted
returns-then-wanted g c =
    let range = g.R.Ranges.range_at c.args.ranges.now in
    subst (λ w. c.within_kept.result ≡ pair_kept range w c.args.item c.args.pair.now) (sym c.if-wanted.true)
    (pair_within range c.args.pair.now c.args.item c.end_range-low.result c.end_range-high.result c.within_kept.result c.if-is_same_item.ensures c.end_range-low.ensures.value c.end_range-high.ensures.value c.within_kept.ensures)

pub returns-else-wanted : goal.returns-else-wanted
returns-else-wanted g c =
    let range = g.R.Ranges.range_at c.args.ranges.now in
    subst (λ w. c.outside_kept.result ≡ pair_kept range w c.args.item c.args.pair.now) (sym c.if-wanted.false)
    (pair_outside range c.args.pair.now c.args.item c.end_range-low.result c.end_range-high.result c.outside_kept.result c.end_range-low.ensures.short.ordered c.end_range-high.ensures.short.ordered
    c.if-is_same_item.ensures c.end_range-low.ensures.value c.end_range-high.ensures.value c.outside_kept.ensures)
