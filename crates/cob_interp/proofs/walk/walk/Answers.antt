use Rattle.cob_interp.specs.Runs.{outside}
use Rattle.cob_interp.specs.Running.{IsAt}
use Rattle.cob_interp.specs.Setting.{program_of, paths_of}
use Rattle.std.proofs.Common.{◌≡◌, ℕ, arith, refl, sym, subst, ◌∙◌}
use Rattle.cob_interp.proofs.FitLemmas.{below_last}
use Rattle.cob_interp.proofs.Written.{written_placed, own_any}
use Rattle.cob_interp.proofs.TrackLemmas.{tracks_pass}
use Rattle.cob_interp.proofs.walk.walk.Goals as goal

pub returns-in-Err-clause-placed : goal.returns-in-Err-clause-placed
returns-in-Err-clause-placed g c =
    own_any c.in-Err.end _
    (written_placed (paths_of c.args.setting.now) _ _ _ c.loop-steps.invariant.placed)

pub go_on-requires-clause-below : goal.go_on-requires-clause-below
go_on-requires-clause-below g c =
    below_last c.args.setting.now c.loop-steps.node c.requires.ready c.loop-steps.invariant.rests
    (sym c.is_final.ensures ∙ c.if-is_final.false)

pub returns-in-Err-clause-halts : goal.returns-in-Err-clause-halts
returns-in-Err-clause-halts g c = λ start at.
    let spent : c.loop-steps.steps ≡ c.args.budget = omega (arith, c.loop-steps-test.false, c.loop-steps.auto.steps-end) in
    let now = outside (g.F.Files.state c.loop-steps.files) (g.O.Sink.state c.loop-steps.out) in
    c.in-Err.ensures start now c.loop-steps.world.world
    (subst (λ (steps : ℕ). IsAt (program_of c.args.setting.now) c.args.setting.now.graph.now (paths_of c.args.setting.now)
    c.args.budget start now c.loop-steps.world.world steps c.loop-steps.node) spent (c.loop-steps.invariant.here start at))

pub loop-steps-preserved : goal.loop-steps-preserved
loop-steps-preserved g c =
    let was = c.loop-steps.invariant in
    let now = c.in_ok-node.ensures in
    record {
      rests = now.rest;
      kept = now.kept ∙ was.kept;
      here = λ start at. now.goes c.args.budget c.loop-steps.steps start refl c.loop-steps-test.true (was.here start at);
      sink = now.sink ∙ was.sink;
      live = now.tracks.live;
      placed = now.placed;
      tracks = tracks_pass _ _ _ _ _ _ was.tracks now.tracks;
    }
