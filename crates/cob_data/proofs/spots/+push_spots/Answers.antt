use Rattle.std.proofs.Common.{◌≡◌, ◌<◌, ◌+◌, length, ◌∙◌, arith}
use Rattle.std.proofs.lemmas.Bool.Decides.{nat_tests}
use Rattle.cob_data.proofs.SpotLemmas.{spots_step, placed_length, pushed_length}
use Rattle.cob_data.proofs.spots.+push_spots.Goals as goal

pub push_spots-requires : goal.push_spots-requires
push_spots-requires t c =
    let some : 0 < length c.loop-last.rest.now = grind (arith, nat_tests) in
    let pushed : length c.push.new.self.items ≡ length c.loop-last.placed.items + 1 = pushed_length _ _ _ c.in_ok-push.ensures.items in
    (omega arith, (omega arith, omega arith))

pub loop-last-preserved : goal.loop-last-preserved
loop-last-preserved t c =
    let some : 0 < length c.loop-last.rest.now = grind (arith, nat_tests) in
    let pushed : length c.push.new.self.items ≡ length c.loop-last.placed.items + 1 = pushed_length _ _ _ c.in_ok-push.ensures.items in
    let placed = placed_length _ _ _ _ _ _ _ c.in_ok-push_spots.ensures in
    record {
      fewer = omega arith;
      count = omega arith;
      same = spots_step c.args.above.now c.above_parts-parts.result c.loop-last.placed.items c.push.new.self.items c.push_spots.new.placed.items _ c.len-place.result c.loop-last.next c.loop-last.last c.loop-last.rest.now c.behind-others.result.now c.front-below.result.now c.behind-rest.result.now c.index-rest-0.result c.spot_of-spot.result c.depth.result c.count_deeper-count.result c.end_behind-next.result c.lies_on_last-on_last.result
          some c.index-rest-0.is c.behind-others.ensures.value c.depth.ensures c.count_deeper-count.ensures.value c.front-below.ensures.value c.behind-rest.ensures.value
          (c.len-place.ensures ∙ c.loop-last.placed.ok.0) c.spot_of-spot.ensures.value c.in_ok-push.ensures.items c.above_parts-parts.ensures
          c.in_ok-push_spots.ensures c.lies_on_last-on_last.ensures c.end_behind-next.ensures.value c.loop-last.invariant.same;
      low = omega arith;
      before = omega arith;
    }
