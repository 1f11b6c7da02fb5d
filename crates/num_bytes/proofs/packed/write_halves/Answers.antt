use Rattle.std.proofs.Common.{arith, refl, ◌+◌, ◌*◌, ◌/◌, ◌%◌, ◌-◌}
use Rattle.std.proofs.lemmas.List.{length-set}
use Rattle.num_bytes.proofs.PackedLemmas.{packed_rest_step, packed_step}
use Rattle.num_bytes.proofs.packed.write_halves.Goals as goal

pub loop-at-preserved : goal.loop-at-preserved
loop-at-preserved c =
    let byte = c.loop-at.rest / 10 % 10 * 16 + c.loop-at.rest % 10 in
    record {
      within = omega (arith, length-set c.loop-at.bytes (c.loop-at.at - 1) byte, c.loop-at.invariant.within);
      rest =
          packed_rest_step c.loop-at.bytes c.loop-at.at c.args.size c.loop-at.rest byte c.loop-at-test.true c.loop-at.invariant.within
          c.loop-at.invariant.rest;
      written =
          packed_step c.loop-at.bytes c.loop-at.at c.args.size c.loop-at.rest byte c.args.last c.loop-at-test.true c.loop-at.invariant.within
          c.loop-at.invariant.rest refl c.loop-at.invariant.written;
    }
