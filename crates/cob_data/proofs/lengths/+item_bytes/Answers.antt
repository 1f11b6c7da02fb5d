use Rattle.std.proofs.Common.{◌≡◌, ◌<◌, length, refl, arith}
use Rattle.std.proofs.lemmas.Bool.Decides.{nat_tests}
use Rattle.cob_data.proofs.LengthLemmas.{extent_step, extent_ends, parts_are}
use Rattle.cob_data.proofs.lengths.+item_bytes.Goals as goal

pub loop-rest-preserved : goal.loop-rest-preserved
loop-rest-preserved t c =
    let some : 0 < length c.loop-rest.rest.now = grind (arith, nat_tests) in
    record {
      fewer = omega arith;
      same = extent_step c.loop-rest.rest.now c.behind-others.result.now c.front.result.now c.behind-rest.result.now c.index-rest-0.result _ _ c.loop-rest.total _ _ _ _ some c.index-rest-0.is c.behind-others.ensures.value c.depth.ensures c.count_deeper-count.ensures.value c.front.ensures.value c.behind-rest.ensures.value c.item_bytes-bytes.ensures.value c.unless_redefining-total.ensures.value refl c.loop-rest.invariant.same;
      within = omega arith;
    }

pub returns-clause-value : goal.returns-clause-value
returns-clause-value t c =
    let none : length c.loop-rest.rest.now ≡ 0 = grind (arith, nat_tests) in
    let some : 0 < length c.args.below.now = grind (arith, nat_tests) in
    parts_are c.args.item.now c.args.below.now _ some (extent_ends c.loop-rest.rest.now _ _ none c.loop-rest.invariant.same)
