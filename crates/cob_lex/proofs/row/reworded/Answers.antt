use Rattle.std.proofs.Common.{◌≡◌, ◌<◌, length, arith}
use Rattle.std.proofs.lemmas.Bool.Decides.{nat_tests}
use Rattle.cob_lex.proofs.RowLemmas.{reworded_step, reworded_ends}
use Rattle.cob_lex.proofs.row.reworded.Goals as goal

pub loop-rest-preserved : goal.loop-rest-preserved
loop-rest-preserved c =
    let some : 0 < length c.loop-rest.rest.now = grind (arith, nat_tests) in
    reworded_step c.loop-rest.done.items _ c.loop-rest.rest.now _ _ c.row_at-row.result _ c.head.ensures some c.row_at-row.ensures.value c.row_at-row.ensures.some c.behind-rest.ensures.value c.in_ok-push_fated.ensures c.loop-rest.invariant

pub returns : goal.returns
returns c =
    let none : length c.loop-rest.rest.now ≡ 0 = grind (arith, nat_tests) in
    reworded_ends c.loop-rest.done.items c.loop-rest.rest.now _ none c.loop-rest.invariant
