use Rattle.std.proofs.Common.{◌≡◌, ◌<◌, length, arith}
use Rattle.std.proofs.lemmas.Bool.Decides.{nat_tests}
use Rattle.cob_lex.proofs.RowLemmas.{padded_step, padded_ends}
use Rattle.cob_lex.proofs.row.padded.Goals as goal

pub loop-rest-preserved : goal.loop-rest-preserved
loop-rest-preserved c =
    let some : 0 < length c.loop-rest.rest.now = grind (arith, nat_tests) in
    padded_step c.loop-rest.done.items _ c.loop-rest.rest.now _ _ c.loop-rest.behind_stop _ _ _ c.head-piece.ensures some c.behind-rest.ensures.value c.is_stop-behind_stop.ensures c.padded_one.ensures c.in_ok-push.ensures.items c.loop-rest.invariant

pub returns : goal.returns
returns c =
    let none : length c.loop-rest.rest.now ≡ 0 = grind (arith, nat_tests) in
    padded_ends c.loop-rest.done.items c.loop-rest.rest.now _ c.loop-rest.behind_stop none c.loop-rest.invariant
