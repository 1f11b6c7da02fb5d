use Rattle.std.proofs.Common.{◌≡◌, ◌<◌, length, arith}
use Rattle.std.proofs.lemmas.Bool.Decides.{nat_tests}
use Rattle.cob_lex.proofs.MarkLemmas.{undoubled_step, undoubled_ends}
use Rattle.cob_lex.proofs.token.undoubled.Goals as goal

pub loop-rest-preserved : goal.loop-rest-preserved
loop-rest-preserved c =
    let some : 0 < length c.loop-rest.rest.now = grind (arith, nat_tests) in
    undoubled_step c.args.quote c.loop-rest.half _ c.loop-rest.bytes.items _ _ c.loop-rest.rest.now _ some c.tail-rest.ensures.value c.half_behind-half.ensures c.in_ok-push_undoubled.ensures c.loop-rest.invariant

pub returns : goal.returns
returns c =
    let none : length c.loop-rest.rest.now ≡ 0 = grind (arith, nat_tests) in
    undoubled_ends c.args.quote c.loop-rest.half c.loop-rest.bytes.items _ c.loop-rest.rest.now none c.loop-rest.invariant
