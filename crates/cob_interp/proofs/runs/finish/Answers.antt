use Rattle.std.proofs.Common.{sym, subst}
use Rattle.cob_runs.specs.State.{World}
use Rattle.cob_interp.specs.Setting.{program_of, paths_of}
use Rattle.cob_interp.specs.Tracking.{AreWritten}
use Rattle.cob_interp.proofs.Finishing.{paths_count, text_refused, file_refused, finished, broken}
use Rattle.cob_interp.proofs.TrackLemmas.{tracks_ids, tracks_pass}
use Rattle.cob_interp.proofs.runs.finish.Goals as goal

pub returns-in-Err-clause-runs : goal.returns-in-Err-clause-runs
returns-in-Err-clause-runs g c budget start off =
    c.give_up.ensures.runs (program_of c.args.setting.now) (paths_of c.args.setting.now)
    budget start _
    (rw c.refused_by_sink.ensures.end
    (text_refused (program_of c.args.setting.now) c.args.setting.now.graph.now
    (paths_of c.args.setting.now) budget start _ _ _
    c.args.world.now.world c.flush.new.world.world c.args.end c.requires.own off c.in-Err.refusal
    c.in-Err.ensures.flushes))

pub write_all-requires-clause-written : goal.write_all-requires-clause-written
write_all-requires-clause-written g c =
    subst (λ (u : World). AreWritten (paths_of c.args.setting.now) (g.F.Files.state c.args.files.now) c.args.handles.now
    u.files) (sym c.in-Ok.ensures.flushes.world) c.requires.written

pub give_up-requires-in-Err-write_all-clause-live : goal.give_up-requires-in-Err-write_all-clause-live
give_up-requires-in-Err-write_all-clause-live g c =
    (tracks_ids _ _ _ c.in-Err-write_all.ensures.ids c.requires.live).live

pub close_handles-requires-clause-live : goal.close_handles-requires-clause-live
close_handles-requires-clause-live g c = (tracks_ids _ _ _ c.in-Ok-write_all.ensures.ids c.requires.live).live

pub returns-in-Err-write_all-clause-tracks : goal.returns-in-Err-write_all-clause-tracks
returns-in-Err-write_all-clause-tracks g c =
    tracks_pass _ _ _ _ _ _ (tracks_ids _ _ _ c.in-Err-write_all.ensures.ids c.requires.live)
    c.give_up-in-Err-write_all.ensures.tracks

pub returns-in-Ok-write_all-clause-tracks : goal.returns-in-Ok-write_all-clause-tracks
returns-in-Ok-write_all-clause-tracks g c =
    tracks_pass _ _ _ _ _ _ (tracks_ids _ _ _ c.in-Ok-write_all.ensures.ids c.requires.live)
    c.close_handles.ensures.tracks

pub returns-in-Err-write_all-clause-runs : goal.returns-in-Err-write_all-clause-runs
returns-in-Err-write_all-clause-runs g c budget start off =
    c.give_up-in-Err-write_all.ensures.runs (program_of c.args.setting.now)
    (paths_of c.args.setting.now) budget start _
    (file_refused (program_of c.args.setting.now) c.args.setting.now.graph.now
    (paths_of c.args.setting.now) budget start _ _ _
    c.args.world.now.world c.flush.new.world.world c.args.end c.requires.own off c.in-Ok.ensures.flushes _
    c.in-Err-write_all.ensures.touches
    c.in-Err-write_all.refusal c.in-Err-write_all.ensures.writes c.in-Err-write_all.ensures.fault
    c.in-Err-write_all.ensures.loses)

pub returns-in-Ok-write_all-clause-runs : goal.returns-in-Ok-write_all-clause-runs
returns-in-Ok-write_all-clause-runs g c budget start off =
    let written = c.in-Ok-write_all.ensures.writes in
    c.close_handles.ensures.runs (program_of c.args.setting.now)
    (paths_of c.args.setting.now) budget start _
    (finished (program_of c.args.setting.now) c.args.setting.now.graph.now
    (paths_of c.args.setting.now) budget start _ _ _
    c.args.world.now.world c.flush.new.world.world c.args.end c.requires.own off c.in-Ok.ensures.flushes _
    c.in-Ok-write_all.ensures.touches
    c.write_all.new.world.world _ (paths_count c.args.setting.now) written.0 written.1)
    (λ good e now same first. broken (program_of c.args.setting.now) c.args.setting.now.graph.now
    (paths_of c.args.setting.now) budget start _ _ _
    c.args.world.now.world c.flush.new.world.world c.args.end c.requires.own off c.in-Ok.ensures.flushes _
    c.in-Ok-write_all.ensures.touches c.args.handles.now c.requires.purposes good e now same first)
