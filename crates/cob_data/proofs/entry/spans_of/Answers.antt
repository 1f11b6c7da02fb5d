use Rattle.cob_data.specs.Entries.{span_of}
use Rattle.cob_data.proofs.StepLemmas.{mapped_step}
use Rattle.cob_data.proofs.entry.spans_of.Goals as goal

pub loop-range-preserved : goal.loop-range-preserved
loop-range-preserved c = mapped_step span_of c.args.ranges.now c.loop-range.range-index c.range-item.result c.loop-range.spans.items _ _ c.loop-range-test.true c.range-item.is c.in_ok-span.ensures c.in_ok-push.ensures.items c.loop-range.invariant
