use Rattle.std.proofs.Common.{◌∙◌, suc, inl, inr, arith, refl, sym}
use Rattle.std.specs.Prelude.{take}
use Rattle.std.proofs.lemmas.Bool.{false≢true}
use Rattle.std.proofs.lemmas.Result.{err_from_is_err_and}
use Rattle.cob_interp.specs.Setting.{paths_of}
use Rattle.cob_interp.specs.Touching.{makes_in}
use Rattle.cob_interp.proofs.FitLemmas.{led_to_rest, led_within}
use Rattle.cob_interp.proofs.StepLemmas.{goes_on_underway}
use Rattle.cob_interp.proofs.Touched.{makes_later, makes_more, makes_on, makes_stay, makes_turn, reaches_file}
use Rattle.cob_interp.proofs.Closings.{opens_stay, opens_pass}
use Rattle.cob_interp.proofs.TrackLemmas.{tracks_stay, tracks_pass}
use Rattle.cob_interp.proofs.steps.open_all.Goals as goal

pub loop-turn-init : goal.loop-turn-init
loop-turn-init g c = record {
  kept = refl;
  within = c.requires.within;
  counts = omega (arith, c.requires.within.above);
  underway = λ sink start underway. underway;
  opens = c.requires.begins;
  touches = makes_stay (paths_of c.args.setting.now) (makes_in (take 0 c.args.openings.now)) c.args.world.now.world _;
  only = opens_stay _;
  live = c.requires.live;
  placed = c.requires.placed;
  tracks = tracks_stay _ _ c.requires.live;
}

pub loop-turn-preserved : goal.loop-turn-preserved
loop-turn-preserved g c =
    let on = led_within c.args.setting.now.plan.nodes.items c.loop-turn.at c.args.statement _ c.in_ok-at.ensures.on
    (sym c.rests_at.ensures.same ∙ c.if-rests_at.false) in record {
      within = on.0;
      counts = omega (arith, on.1, c.loop-turn.invariant.counts);
      kept = c.in_ok-at.ensures.kept ∙ c.loop-turn.invariant.kept;
      underway = λ sink start underway. goes_on_underway c.args.setting.now start _ _ c.args.step _
          (c.rests_at.ensures.graph c.if-rests_at.false)
          (c.in_ok-at.ensures.leads sink c.args.step start (omega arith) (c.loop-turn.invariant.underway sink start underway));
      opens = elim (c.in_ok-at.ensures.turn c.loop-turn._turn c.loop-turn.invariant.opens) [
        | inl rest ↦ absurd (false≢true (sym (sym c.rests_at.ensures.same ∙ c.if-rests_at.false) ∙ rest.is))
        | inr there ↦ there
      ];
      touches = makes_turn (paths_of c.args.setting.now) c.args.openings.now c.args.world.now.world _ _ c.loop-turn._turn _
          (omega arith)
          (makes_on (paths_of c.args.setting.now) _ _ _ _ _ (makes_in (take (suc c.loop-turn._turn) c.args.openings.now))
          (makes_more (paths_of c.args.setting.now) (makes_in (take c.loop-turn._turn c.args.openings.now))
          (makes_in (take (suc c.loop-turn._turn) c.args.openings.now)) c.args.world.now.world
          (makes_later c.args.openings.now c.loop-turn._turn) _ _ c.loop-turn.invariant.touches)
          c.loop-turn.invariant.only
          (c.in_ok-at.ensures.touches c.loop-turn._turn c.loop-turn.invariant.opens));
      only = opens_pass _ _ _ c.loop-turn.invariant.only c.in_ok-at.ensures.opens;
      live = c.in_ok-at.ensures.tracks.live;
      placed = c.in_ok-at.ensures.placed;
      tracks = tracks_pass _ _ _ _ _ _ c.loop-turn.invariant.tracks c.in_ok-at.ensures.tracks;
    }

pub returns-in_err-at-clause-reaches : goal.returns-in_err-at-clause-reaches
returns-in_err-at-clause-reaches g c =
    let p = err_from_is_err_and c.from_residual.result c.from_residual.ensures.1 in
    rw (p.1, p.2)
    (reaches_file (paths_of c.args.setting.now) c.args.world.now.world _ _ c.args.openings.now c.loop-turn._turn _
    (makes_on (paths_of c.args.setting.now) _ _ _ _ _ (makes_in (take (suc c.loop-turn._turn) c.args.openings.now))
    (makes_more (paths_of c.args.setting.now) (makes_in (take c.loop-turn._turn c.args.openings.now))
    (makes_in (take (suc c.loop-turn._turn) c.args.openings.now)) c.args.world.now.world
    (makes_later c.args.openings.now c.loop-turn._turn) _ _ c.loop-turn.invariant.touches)
    c.loop-turn.invariant.only
    (c.in_err-at.ensures.touches c.loop-turn._turn c.loop-turn.invariant.opens))
    (c.in_err-at.ensures.met c.loop-turn._turn c.loop-turn.invariant.opens))

pub returns-then-rests_at-clause-reaches : goal.returns-then-rests_at-clause-reaches
returns-then-rests_at-clause-reaches g c =
    reaches_file (paths_of c.args.setting.now) c.args.world.now.world _ _ c.args.openings.now c.loop-turn._turn _
    (makes_on (paths_of c.args.setting.now) _ _ _ _ _ (makes_in (take (suc c.loop-turn._turn) c.args.openings.now))
    (makes_more (paths_of c.args.setting.now) (makes_in (take c.loop-turn._turn c.args.openings.now))
    (makes_in (take (suc c.loop-turn._turn) c.args.openings.now)) c.args.world.now.world
    (makes_later c.args.openings.now c.loop-turn._turn) _ _ c.loop-turn.invariant.touches)
    c.loop-turn.invariant.only
    (c.in_ok-at.ensures.touches c.loop-turn._turn c.loop-turn.invariant.opens)) tt

pub returns-in_err-at-clause-tracks : goal.returns-in_err-at-clause-tracks
returns-in_err-at-clause-tracks g c = tracks_pass _ _ _ _ _ _ c.loop-turn.invariant.tracks c.in_err-at.ensures.tracks

pub returns-then-rests_at-clause-tracks : goal.returns-then-rests_at-clause-tracks
returns-then-rests_at-clause-tracks g c = tracks_pass _ _ _ _ _ _ c.loop-turn.invariant.tracks c.in_ok-at.ensures.tracks

pub returns-in_err-at-clause-leads : goal.returns-in_err-at-clause-leads
returns-in_err-at-clause-leads g c =
    let p = err_from_is_err_and c.from_residual.result c.from_residual.ensures.1 in
    rw (p.1, p.2)
    (λ sink budget start within u. c.in_err-at.ensures.leads sink budget start within
    (c.loop-turn.invariant.underway sink start u))

pub returns-then-rests_at-clause-rest : goal.returns-then-rests_at-clause-rest
returns-then-rests_at-clause-rest g c =
    led_to_rest c.args.setting.now.plan.nodes.items c.loop-turn.at c.args.statement _ c.in_ok-at.ensures.on
    (sym c.rests_at.ensures.same ∙ c.if-rests_at.true)

pub unreachable-requires : goal.unreachable-requires
unreachable-requires g c =
    omega (arith, c.loop-turn.invariant.counts, c.loop-turn.invariant.within.below, c.args.setting.now.plan.nodes.ok.0)
