use Rattle.std.proofs.Common.{◌≡◌, ◌<◌, length, arith}
use Rattle.std.proofs.lemmas.Bool.Decides.{nat_tests}
use Rattle.cob_lex.proofs.RowLemmas.{related_step, related_ends}
use Rattle.cob_lex.proofs.row.related.Goals as goal

pub loop-rest-preserved : goal.loop-rest-preserved
loop-rest-preserved c =
    let some : 0 < length c.loop-rest.rest.now = grind (arith, nat_tests) in
    related_step c.loop-rest.done.items _ c.loop-rest.rest.now _ _ c.compared_at-compared.result _ _ _ c.head.ensures some c.compared_at-compared.ensures.value c.compared_at-compared.ensures.some c.words_of.ensures c.behind-rest.ensures.value c.relation_or.ensures c.in_ok-push.ensures.items c.loop-rest.invariant

pub returns : goal.returns
returns c =
    let none : length c.loop-rest.rest.now ≡ 0 = grind (arith, nat_tests) in
    related_ends c.loop-rest.done.items c.loop-rest.rest.now _ none c.loop-rest.invariant
