use Rattle.std.proofs.lemmas.Result.{err_from_is_err_and}
use Rattle.cob_program.specs.ActView.{plain_act}
use Rattle.cob_interp.specs.Setting.{program_of, paths_of}
use Rattle.cob_interp.specs.Reached.{up_to}
use Rattle.cob_interp.specs.Touching.{makes_by}
use Rattle.cob_interp.proofs.CloseLemmas.{refused_halts}
use Rattle.cob_interp.proofs.Emptying.{stands_sees, touches_sees}
use Rattle.cob_interp.proofs.Readied.{placed_ids}
use Rattle.cob_interp.proofs.Touched.{reaches_none}
use Rattle.cob_interp.proofs.TrackLemmas.{placed_on, tracks_ids, tracks_pass}
use Rattle.cob_interp.proofs.Written.{refused_own}
use Rattle.std.proofs.Common.{ap}
use Rattle.cob_runs.specs.State.{World}
use Rattle.cob_interp.proofs.Failing.{failed_any, still_shown}
use Rattle.cob_interp.proofs.walk.take_roomy_step.Goals as goal

pub take_step-requires-clause-live : goal.take_step-requires-clause-live
take_step-requires-clause-live g c = (tracks_ids _ _ _ c.in_ok-make_room.ensures.ids c.requires.live).live

pub take_step-requires-clause-placed : goal.take_step-requires-clause-placed
take_step-requires-clause-placed g c =
    placed_on (paths_of c.args.setting.now) _ _ c.args.world.now.world.files _ c.in_ok-make_room.ensures.places
    (placed_ids (paths_of c.args.setting.now) _ _ _ _ c.in_ok-make_room.ensures.ids c.requires.live c.requires.placed)

pub returns-in_err-make_room-clause-tracks : goal.returns-in_err-make_room-clause-tracks
returns-in_err-make_room-clause-tracks g c = tracks_ids _ _ _ c.in_err-make_room.ensures.ids c.requires.live

pub returns-in_err-make_room-clause-placed : goal.returns-in_err-make_room-clause-placed
returns-in_err-make_room-clause-placed g c =
    let p = err_from_is_err_and c.from_residual.result c.from_residual.ensures.1 in
    rw (p.1, p.2)
    (refused_own (g.F.Files.state c.args.files.now) (g.F.Files.state c.make_room.new.files) _ _
    c.in_err-make_room.ensures.sees)

pub returns-in_err-make_room-clause-takes : goal.returns-in_err-make_room-clause-takes
returns-in_err-make_room-clause-takes g c =
    let p = err_from_is_err_and c.from_residual.result c.from_residual.ensures.1 in
    rw (p.1, p.2)
    (λ sink budget steps start counted within stands.
    refused_halts c.args.setting.now budget start sink _ _ _ stands.text _ stands.well
    c.in_err-make_room.ensures.sees)

pub returns-in_err-make_room-clause-reaches : goal.returns-in_err-make_room-clause-reaches
returns-in_err-make_room-clause-reaches g c =
    let p = err_from_is_err_and c.from_residual.result c.from_residual.ensures.1 in
    rw (p.1, p.2)
    (reaches_none (paths_of c.args.setting.now) (plain_act c.args.place.now.statement.now.act.now)
    c.args.world.now.world _ _ _ c.in_err-make_room.ensures.touches c.in_err-make_room.ensures.met)

pub returns-clause-tracks : goal.returns-clause-tracks
returns-clause-tracks g c =
    tracks_pass _ _ _ _ _ _ (tracks_ids _ _ _ c.in_ok-make_room.ensures.ids c.requires.live)
    c.take_step.ensures.tracks

pub returns-clause-takes : goal.returns-clause-takes
returns-clause-takes g c = λ sink budget steps start counted within stands.
    c.take_step.ensures.takes sink budget steps start counted within
    (stands_sees (program_of c.args.setting.now) c.args.setting.now.graph.now (paths_of c.args.setting.now) start sink
    _ _ c.args.world.now.world _ c.in_ok-make_room.ensures.sees steps steps c.args.node stands)

pub returns-clause-reaches : goal.returns-clause-reaches
returns-clause-reaches g c = record {
  reached = c.take_step.ensures.reaches.reached;
  touches = touches_sees (paths_of c.args.setting.now)
      (makes_by (up_to c.take_step.ensures.reaches.reached (plain_act c.args.place.now.statement.now.act.now))) _ _ _
      c.args.world.now.world _ c.in_ok-make_room.ensures.sees c.take_step.ensures.reaches.touches;
  met = c.take_step.ensures.reaches.met;
}

pub returns-in_err-make_room-clause-still : goal.returns-in_err-make_room-clause-still
returns-in_err-make_room-clause-still g c = λ _.
    failed_any _ _ (ap (λ (w : World). w.shown) c.in_err-make_room.ensures.still)

pub returns-clause-still : goal.returns-clause-still
returns-clause-still g c = λ waits.
    still_shown c.take_step.result c.take_step.new.world.world c.make_room.new.world.world c.args.world.now.world
    (c.take_step.ensures.still waits) c.in_ok-make_room.ensures.sees.world
