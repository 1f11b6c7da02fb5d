use Rattle.cob_interp.specs.Setting.{paths_of}
use Rattle.cob_interp.specs.Touching.{makes_none}
use Rattle.cob_interp.proofs.Readied.{stand_ids, stand_closed, out_closed, touches_known}
use Rattle.cob_interp.proofs.TrackLemmas.{tracks_ids, tracks_pass}
use Rattle.cob_interp.proofs.Written.{written_placed}
use Rattle.cob_interp.proofs.outside.ready_to_close.Goals as goal

pub write_out-requires-clause-written : goal.write_out-requires-clause-written
write_out-requires-clause-written g c =
    written_placed (paths_of c.args.setting.now) _ c.args.handles.now c.args.world.now.world.files c.requires.placed

pub close-requires : goal.close-requires
close-requires g c = record { live = (tracks_ids _ _ _ c.in_ok-write_out.ensures.ids c.requires.live).live }

pub returns-in_err-write_out-clause-tracks : goal.returns-in_err-write_out-clause-tracks
returns-in_err-write_out-clause-tracks g c = tracks_ids _ _ _ c.in_err-write_out.ensures.ids c.requires.live

pub returns-in_err-close-clause-tracks : goal.returns-in_err-close-clause-tracks
returns-in_err-close-clause-tracks g c =
    tracks_pass _ _ _ _ _ _ (tracks_ids _ _ _ c.in_ok-write_out.ensures.ids c.requires.live)
    c.in_err-close.ensures.tracks

pub returns-clause-tracks : goal.returns-clause-tracks
returns-clause-tracks g c =
    tracks_pass _ _ _ _ _ _ (tracks_ids _ _ _ c.in_ok-write_out.ensures.ids c.requires.live)
    c.in_ok-close.ensures.tracks

pub returns-clause-goes : goal.returns-clause-goes
returns-clause-goes g c =
    out_closed c.args.setting.now c.args.world.now.world c.args.place _ _ _ c.in_ok-write_out.ensures.goes
    c.in_ok-close.ensures.closes.well c.in_ok-close.ensures.same

pub returns-clause-stand : goal.returns-clause-stand
returns-clause-stand g c fs stand =
    stand_closed (paths_of c.args.setting.now) _ _ fs _ _ _ c.in_ok-close.ensures.closes
    (stand_ids (paths_of c.args.setting.now) _ _ fs _ c.in_ok-write_out.ensures.ids c.requires.live stand)

pub returns-clause-touches : goal.returns-clause-touches
returns-clause-touches g c =
    touches_known (paths_of c.args.setting.now) makes_none c.args.world.now.world _ _ _
    c.in_ok-write_out.ensures.touches c.in_ok-close.ensures.same

pub returns-in_err-close-clause-touches : goal.returns-in_err-close-clause-touches
returns-in_err-close-clause-touches g c =
    touches_known (paths_of c.args.setting.now) makes_none c.args.world.now.world _ _ _
    c.in_ok-write_out.ensures.touches c.in_err-close.ensures.same
