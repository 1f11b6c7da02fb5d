use Rattle.std.proofs.Common.{◌∙◌, arith, refl, sym}
use Rattle.std.proofs.lemmas.Result.{err_from_is_err_and}
use Rattle.cob_interp.specs.Tracking.{KeepsPlaces}
use Rattle.cob_interp.proofs.FitLemmas.{led_to_rest, led_within}
use Rattle.cob_interp.proofs.StepLemmas.{goes_on_underway}
use Rattle.cob_interp.proofs.TrackLemmas.{places_stay, places_pass}
use Rattle.cob_interp.proofs.Written.{own_weaker}
use Rattle.cob_interp.proofs.steps.go_through.Goals as goal

pub loop-part-init : goal.loop-part-init
loop-part-init c = record {
  kept = refl;
  within = c.requires.within;
  counts = omega (arith, c.requires.within.above);
  goes = c.requires.goes;
  underway = λ now start u. u;
  places = places_stay _;
}

pub returns-in_err-at-clause-leads : goal.returns-in_err-at-clause-leads
returns-in_err-at-clause-leads c =
    let p = err_from_is_err_and c.from_residual.result c.from_residual.ensures.1 in
    rw (p.1, p.2)
    (λ now budget start within u. c.in_err-at.ensures.leads now budget start within
    (c.loop-part.invariant.underway now start u))

pub loop-part-preserved : goal.loop-part-preserved
loop-part-preserved c =
    let on = led_within c.args.setting.now.plan.nodes.items c.loop-part.at c.args.statement _ c.in_ok-at.ensures.on
    (sym c.rests_at.ensures.same ∙ c.if-rests_at.false) in record {
      within = on.0;
      counts = omega (arith, on.1, c.loop-part.invariant.counts);
      goes = sym c.rests_at.ensures.same ∙ c.if-rests_at.false;
      kept = c.do_node.ensures.kept ∙ c.loop-part.invariant.kept;
      underway = λ now start u. goes_on_underway c.args.setting.now start now _ c.args.step _
          (c.rests_at.ensures.graph c.if-rests_at.false)
          (c.in_ok-at.ensures.leads now c.args.step start (omega arith) (c.loop-part.invariant.underway now start u));
      places = places_pass _ _ _ c.loop-part.invariant.places c.in_ok-at.ensures.places;
    }

pub returns-then-rests_at-clause-places : goal.returns-then-rests_at-clause-places
returns-then-rests_at-clause-places c = places_pass _ _ _ c.loop-part.invariant.places c.in_ok-at.ensures.places

pub returns-in_err-at-clause-places : goal.returns-in_err-at-clause-places
returns-in_err-at-clause-places c =
    let p = err_from_is_err_and c.from_residual.result c.from_residual.ensures.1 in
    rw (p.1, p.2)
    (own_weaker _ (KeepsPlaces c.loop-part.world.world.files c.do_node.new.world.world.files)
    (KeepsPlaces c.args.world.now.world.files c.do_node.new.world.world.files)
    (λ k. places_pass _ _ _ c.loop-part.invariant.places k) c.in_err-at.ensures.places)

pub returns-in_err-at-clause-fine : goal.returns-in_err-at-clause-fine
returns-in_err-at-clause-fine c =
    let p = err_from_is_err_and c.from_residual.result c.from_residual.ensures.1 in
    rw (p.1, p.2) c.in_err-at.ensures.fine

pub returns-then-rests_at-clause-rest : goal.returns-then-rests_at-clause-rest
returns-then-rests_at-clause-rest c =
    led_to_rest c.args.setting.now.plan.nodes.items c.loop-part.at c.args.statement _ c.in_ok-at.ensures.on
    (sym c.rests_at.ensures.same ∙ c.if-rests_at.true)

pub unreachable-requires : goal.unreachable-requires
unreachable-requires c =
    omega (arith, c.loop-part.invariant.counts, c.loop-part.invariant.within.below, c.args.setting.now.plan.nodes.ok.0)
