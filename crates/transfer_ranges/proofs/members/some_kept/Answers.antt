use Rattle.std.proofs.Common.{◌∙◌, true, ap, arith}
use Rattle.std.proofs.lemmas.List.{take_all}
use Rattle.transfer_ranges.specs.Trimming.{pairs_kept}
use Rattle.transfer_ranges.proofs.MemberCode.{none_found, one_more}
use Rattle.transfer_ranges.proofs.members.some_kept.Goals as goal

pub loop-pair-init : goal.loop-pair-init
loop-pair-init g c = none_found (g.R.Ranges.range_at c.args.ranges.now) c.args.item c.args.pairs.now

pub loop-pair-preserved : goal.loop-pair-preserved
loop-pair-preserved g c =
    one_more (g.R.Ranges.range_at c.args.ranges.now) c.args.item c.args.pairs.now c.loop-pair.pair-index c.pair-item.result c.loop-pair.found c.pair_kept.result c.either-found.result c.loop-pair-test.true c.pair-item.is c.loop-pair.invariant c.pair_kept.ensures c.either-found.ensures

pub returns : goal.returns
returns g c =
    c.loop-pair.invariant ∙ ap (pairs_kept (g.R.Ranges.range_at c.args.ranges.now) true c.args.item) (take_all c.loop-pair.pair-index c.args.pairs.now (omega (arith, c.loop-pair-test.false)))
