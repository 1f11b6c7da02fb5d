use Rattle.std.proofs.Common.{◌<◌, length, arith}
use Rattle.std.proofs.lemmas.Bool.Decides.{nat_tests}
use Rattle.cob_data.proofs.ReadLemmas.{moves_entry}
use Rattle.cob_data.proofs.entry.Table.read.Goals as goal

pub loop-rest-preserved : goal.loop-rest-preserved
loop-rest-preserved c =
    let some : 0 < length c.loop-rest.rest.now = grind (arith, nat_tests) in
    let more = c.in_ok-push.ensures.more in
    record {
      fewer = omega (arith, more);
      moves = λ later. moves_entry _ _ _ c.args.area _ later c.loop-rest.rest.now c.behind-rest.result.now c.index-rest-0.result some c.index-rest-0.is c.behind-rest.ensures.value (c.loop-rest.invariant.moves later) c.in_ok-push.ensures.moves;
    }
