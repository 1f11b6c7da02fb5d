use Rattle.std.proofs.Common.{◌+◌, ◌%◌, arith}
use Rattle.num_bytes.proofs.DigitLemmas.{rest_step, written_step}
use Rattle.num_bytes.proofs.digits.write_digits.Goals as goal

pub loop-at-preserved : goal.loop-at-preserved
loop-at-preserved c = record {
  rest =
      rest_step c.loop-at.text c.loop-at.at c.args.size c.loop-at.rest (48 + c.loop-at.rest % 10) c.loop-at-test.true (omega arith)
      c.loop-at.invariant.rest;
  written =
      written_step c.loop-at.text c.loop-at.at c.args.size c.loop-at.rest c.loop-at-test.true (omega arith) c.loop-at.invariant.rest
      c.loop-at.invariant.written;
}
