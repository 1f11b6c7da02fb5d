use Rattle.std.proofs.Common.{None, true, false, refl, sym, subst, ◌∙◌}
use Rattle.std.proofs.lemmas.Option.{slice_get_within}
use Rattle.cob_interp.specs.Tracking.{Ids, Tracks}
use Rattle.cob_interp.specs.Readying.{OpensFor}
use Rattle.cob_interp.proofs.TrackLemmas.{tracks_ids, tracks_opened, tracks_stay}
use Rattle.cob_interp.proofs.HandleLemmas.{opens_for, absent_for}
use Rattle.cob_interp.proofs.handles.Handles.open.Goals as goal

pub put_held-requires : goal.put_held-requires
put_held-requires g c = slice_get_within c.args.self.now c.args.place None c.requires.free

pub returns-in_default-clause-tracks : goal.returns-in_default-clause-tracks
returns-in_default-clause-tracks g c = tracks_stay _ c.args.self.now c.requires.live

pub returns-in-Ok-open-clause-tracks : goal.returns-in-Ok-open-clause-tracks
returns-in-Ok-open-clause-tracks g c =
    let within = slice_get_within c.args.self.now c.args.place None c.requires.free in
    subst (λ (ids : Ids). Tracks (g.F.Files.state c.args.files.now) (g.F.Files.state c.open.new.self) c.args.self.now ids)
    (sym (c.give_room.ensures ∙ c.put_held.ensures))
    (tracks_opened _ _ c.args.self.now c.args.place c.in-Ok-open.id false c.args.name.now within
    (λ other more is. let free = c.requires.free in cc) c.in-Ok-open.ensures.call.ids c.requires.live)

pub returns-in-Ok-open-clause-same : goal.returns-in-Ok-open-clause-same
returns-in-Ok-open-clause-same g c = c.in-Ok-open.ensures.call.bytes

pub returns-in-Ok-open-clause-opens : goal.returns-in-Ok-open-clause-opens
returns-in-Ok-open-clause-opens g c =
    subst (λ (ids : Ids). OpensFor (g.F.Files.state c.args.files.now) (g.F.Files.state c.open.new.self) c.args.self.now
    ids c.args.name.now c.args.place true) (sym (c.give_room.ensures ∙ c.put_held.ensures))
    (opens_for _ _ c.args.self.now c.args.name.now c.args.place
    (slice_get_within c.args.self.now c.args.place None c.requires.free) c.in-Ok-open.id c.in-Ok-open.ensures.call)

pub returns-in-Err-Absent-clause-tracks : goal.returns-in-Err-Absent-clause-tracks
returns-in-Err-Absent-clause-tracks g c =
    tracks_ids _ _ c.args.self.now c.in-Err-Absent.ensures.call.ids c.requires.live

pub returns-in-Err-Absent-clause-same : goal.returns-in-Err-Absent-clause-same
returns-in-Err-Absent-clause-same g c = c.in-Err-Absent.ensures.call.bytes

pub returns-in-Err-Absent-clause-opens : goal.returns-in-Err-Absent-clause-opens
returns-in-Err-Absent-clause-opens g c =
    absent_for _ _ c.args.self.now c.args.name.now c.args.place
    (slice_get_within c.args.self.now c.args.place None c.requires.free)
    (rw c.in-Err-Absent.field-0-is at c.in-Err-Absent.ensures.call)

pub returns-in-Err-Failed-clause-tracks : goal.returns-in-Err-Failed-clause-tracks
returns-in-Err-Failed-clause-tracks g c =
    tracks_ids _ _ c.args.self.now c.in-Err-Failed.ensures.call.ids c.requires.live

pub returns-in-Err-Failed-clause-same : goal.returns-in-Err-Failed-clause-same
returns-in-Err-Failed-clause-same g c = c.in-Err-Failed.ensures.call.bytes

pub returns-in-Err-Failed-clause-opens : goal.returns-in-Err-Failed-clause-opens
returns-in-Err-Failed-clause-opens g c =
    let told = rw c.in-Err-Failed.field-0-is at c.in-Err-Failed.ensures.call in told.reading.rose refl

pub returns-clause-tracks : goal.returns-clause-tracks
returns-clause-tracks g c = tracks_ids _ _ c.args.self.now c.in-Err-Memory.ensures.call.ids c.requires.live

pub returns-clause-same : goal.returns-clause-same
returns-clause-same g c = c.open.ensures.call.bytes
