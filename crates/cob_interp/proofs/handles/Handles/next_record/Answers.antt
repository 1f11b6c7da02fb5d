use Rattle.std.proofs.Common.{◌≡◌, ℕ, false, List, length, drop, take_at, refl, sym, subst, arith}
use Rattle.cob_interp.specs.Tracking.{Ids, Tracks}
use Rattle.cob_interp.specs.Readying.{GivesRecord}
use Rattle.cob_interp.proofs.TrackLemmas.{tracks_given, tracks_stay}
use Rattle.cob_interp.proofs.HandleLemmas.{record_given}
use Rattle.cob_interp.proofs.handles.Handles.next_record.Goals as goal

pub read_record-requires : goal.read_record-requires
read_record-requires g c =
    c.requires.live.purpose c.args.place c.id_for-id.result false c.id_for-id.ensures

pub returns-in_default-clause-tracks : goal.returns-in_default-clause-tracks
returns-in_default-clause-tracks g c =
    subst (λ (ids : Ids). Tracks (g.F.Files.state c.args.files.now) (g.F.Files.state c.args.files.now) c.args.self.now ids)
    (sym c.take_room.ensures.kept) (tracks_stay _ c.args.self.now c.requires.live)

pub returns-in-Ok-read_record-clause-tracks : goal.returns-in-Ok-read_record-clause-tracks
returns-in-Ok-read_record-clause-tracks g c =
    subst (λ (ids : Ids). Tracks (g.F.Files.state c.args.files.now) (g.F.Files.state c.read_record.new.files)
    c.args.self.now ids) (sym c.take_room.ensures.kept)
    (tracks_given _ _ c.args.self.now c.args.place c.id_for-id.result false _ c.id_for-id.ensures
    c.in-Ok-read_record.ensures.given c.requires.live)

pub returns-in-Ok-read_record-clause-same : goal.returns-in-Ok-read_record-clause-same
returns-in-Ok-read_record-clause-same g c = c.in-Ok-read_record.ensures.given.contents

pub returns-in-Ok-read_record-clause-gives : goal.returns-in-Ok-read_record-clause-gives
returns-in-Ok-read_record-clause-gives g c =
    let long : length c.read_record.new.buf ≡ c.in-Ok.room.len =
    omega (arith, c.read_record.auto.buf, c.as_mut_slice.ensures.len) in
    subst (λ (bytes : List ℕ). GivesRecord (g.F.Files.state c.args.files.now) (g.F.Files.state c.read_record.new.files)
    c.args.self.now c.args.place c.args.size bytes c.in-Ok-read_record.count)
    (sym (take_at c.read_record.new.buf (drop (length c.read_record.new.buf) c.in-Ok.room.items) c.in-Ok.room.len long))
    (record_given _ _ c.args.self.now c.args.place c.id_for-id.result c.args.size c.read_record.new.buf
    c.in-Ok-read_record.count c.id_for-id.ensures (omega (arith, long, c.in-Ok.room.ok.0, c.in-Ok.ensures.room))
    c.in-Ok-read_record.ensures)

pub returns-in-Err-clause-tracks : goal.returns-in-Err-clause-tracks
returns-in-Err-clause-tracks g c =
    subst (λ (ids : Ids). Tracks (g.F.Files.state c.args.files.now) (g.F.Files.state c.read_record.new.files)
    c.args.self.now ids) (sym c.take_room.ensures.kept)
    (tracks_given _ _ c.args.self.now c.args.place c.id_for-id.result false _ c.id_for-id.ensures
    c.in-Err.ensures.refused.1 c.requires.live)

pub returns-in-Err-clause-same : goal.returns-in-Err-clause-same
returns-in-Err-clause-same g c = c.in-Err.ensures.refused.1.contents

pub returns-in-Err-clause-gives : goal.returns-in-Err-clause-gives
returns-in-Err-clause-gives g c = c.in-Err.ensures.reading.rose refl
