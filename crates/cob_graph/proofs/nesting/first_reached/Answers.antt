use Rattle.std.proofs.Common.{◌≡◌, ◌∙◌, length, map, ap, arith}
use Rattle.cob_graph.specs.Listing.{plain_call}
use Rattle.cob_graph.specs.Broken.{least_below, cycle_at, crossings}
use Rattle.cob_graph.proofs.LeastLemmas.{lesser_more, noted_more, cycle_read}
use Rattle.cob_graph.proofs.nesting.first_reached.Goals as goal

pub loop-outer-preserved : goal.loop-outer-preserved
loop-outer-preserved c =
    let calls = c.args.calls.now in
    let cs = map plain_call calls in
    let l = c.loop-outer in (
      noted_more (cycle_at cs) l.outer l.cycle _ _ _ l.invariant.0 c.noted-cycle.ensures
          (cycle_read calls c.in_ok-row.row l.outer _ _ c.in_ok-row.ensures c.loop-outer-test.true c.has.ensures),
      lesser_more (crossings cs) l.outer l.crossing _ _ l.invariant.1 c.lesser-crossing.ensures c.crossings.ensures,
    )

pub returns-clause-cycle : goal.returns-clause-cycle
returns-clause-cycle c =
    let calls = c.args.calls.now in
    let past : c.loop-outer.outer ≡ length calls = omega arith in
    c.loop-outer.invariant.0 ∙ ap (least_below (cycle_at (map plain_call calls))) past

pub returns-clause-crossing : goal.returns-clause-crossing
returns-clause-crossing c =
    let calls = c.args.calls.now in
    let past : c.loop-outer.outer ≡ length calls = omega arith in
    c.loop-outer.invariant.1 ∙ ap (least_below (crossings (map plain_call calls))) past
