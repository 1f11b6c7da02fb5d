use Rattle.std.proofs.Common.{◌-◌, ◌∙◌, ap, arith}
use Rattle.cob_data.proofs.ValueLemmas.{value_step, value_end}
use Rattle.cob_data.proofs.values.value.Goals as goal

pub loop-c-preserved : goal.loop-c-preserved
loop-c-preserved c = record {
  same = value_step c.args.digits.now c.loop-c.c-index c.loop-c.value c.saturating_sub-digit.result c.min-value.result _ c.loop-c-test.true (c.saturating_sub-digit.ensures ∙ ap (λ n. n - 48) c.from.ensures) (omega arith) c.loop-c.invariant.same;
  small = omega arith;
}

pub returns : goal.returns
returns c = value_end c.args.digits.now c.loop-c.c-index c.loop-c.value _ c.loop-c-test.false c.loop-c.invariant.small c.loop-c.invariant.same
