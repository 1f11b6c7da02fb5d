use Rattle.std.proofs.Common.{false, refl, arith}
use Rattle.transfer_ranges.proofs.MemberCode.{trimmed_stops, trimmed_goes_on, trimmed_ends, short_pair_kept}
use Rattle.transfer_ranges.proofs.members.trimmed.Goals as goal

pub loop-pair-init : goal.loop-pair-init
loop-pair-init g c = record { whole = refl; short = c.requires.item }

pub pair_kept-requires-clause-item : goal.pair_kept-requires-clause-item
pair_kept-requires-clause-item g c = c.loop-pair.invariant.short

pub returns-in-None : goal.returns-in-None
returns-in-None g c =
    let l = c.loop-pair in
    trimmed_stops (g.R.Ranges.range_at c.args.ranges.now) c.args.pairs.now l.pair-index c.pair-item.result l.left _ c.loop-pair-test.true c.pair-item.is c.in-None.ensures l.invariant.whole

pub loop-pair-preserved : goal.loop-pair-preserved
loop-pair-preserved g c =
    let l = c.loop-pair in
    let range = g.R.Ranges.range_at c.args.ranges.now in
    record {
      whole = trimmed_goes_on range c.args.pairs.now l.pair-index c.pair-item.result l.left c.in-Some.units _ c.loop-pair-test.true c.pair-item.is c.in-Some.ensures l.invariant.whole;
      short = short_pair_kept range false l.left c.pair-item.result c.in-Some.units l.invariant.short c.in-Some.ensures;
    }

pub returns : goal.returns
returns g c =
    let l = c.loop-pair in
    trimmed_ends (g.R.Ranges.range_at c.args.ranges.now) c.args.pairs.now l.pair-index l.left _ (omega (arith, c.loop-pair-test.false)) l.invariant.whole
