use Rattle.std.proofs.Common.{arith}
use Rattle.cob_data.proofs.ReadLemmas.{files_length, moves_file}
use Rattle.cob_data.proofs.read.read_files.Goals as goal

pub read-requires : goal.read-requires
read-requires c =
    let count = files_length c.args.fds.now c.loop-place.place c.index-fds-place.result c.get.result.now c.loop-place-test.true c.index-fds-place.is c.get.ensures in
    omega arith

pub loop-place-preserved : goal.loop-place-preserved
loop-place-preserved c =
    let count = files_length c.args.fds.now c.loop-place.place c.index-fds-place.result c.get.result.now c.loop-place-test.true c.index-fds-place.is c.get.ensures in
    let more = c.in_ok-read.ensures.more in
    record {
      room = omega (arith, more);
      moves = λ later. moves_file _ _ _ _ later c.args.fds.now c.loop-place.place c.index-fds-place.result c.get.result.now c.loop-place-test.true c.index-fds-place.is c.get.ensures (c.loop-place.invariant.moves later) c.in_ok-read.ensures.moves;
    }
