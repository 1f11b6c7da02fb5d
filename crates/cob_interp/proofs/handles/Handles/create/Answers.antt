use Rattle.std.proofs.Common.{None, true, sym, subst, ◌∙◌}
use Rattle.std.proofs.lemmas.Option.{slice_get_within}
use Rattle.cob_interp.specs.Tracking.{Ids, Tracks}
use Rattle.cob_interp.specs.Readying.{CreatesFor}
use Rattle.cob_interp.proofs.TrackLemmas.{tracks_opened}
use Rattle.cob_interp.proofs.HandleLemmas.{creates_for, creates_part, created_none}
use Rattle.cob_interp.proofs.handles.Handles.create.Goals as goal

pub returns-in-Ok-create-clause-tracks : goal.returns-in-Ok-create-clause-tracks
returns-in-Ok-create-clause-tracks g c =
    let within = slice_get_within c.args.self.now c.args.place None c.requires.free in
    subst (λ (ids : Ids). Tracks (g.F.Files.state c.args.files.now) (g.F.Files.state c.create.new.self) c.args.self.now ids)
    (sym (c.give_room.ensures ∙ c.put_held.ensures))
    (tracks_opened _ _ c.args.self.now c.args.place c.in-Ok-create.id true c.args.name.now within
    (λ other more is. let free = c.requires.free in cc) c.in-Ok-create.ensures.call.ids c.requires.live)

pub put_held-requires : goal.put_held-requires
put_held-requires g c = slice_get_within c.args.self.now c.args.place None c.requires.free

pub returns-in-Ok-create-clause-creates : goal.returns-in-Ok-create-clause-creates
returns-in-Ok-create-clause-creates g c =
    subst (λ (ids : Ids). CreatesFor (g.F.Files.state c.args.files.now) (g.F.Files.state c.create.new.self) c.args.self.now
    ids c.args.name.now c.args.place) (sym (c.give_room.ensures ∙ c.put_held.ensures))
    (creates_for _ _ c.args.self.now c.args.name.now c.args.place
    (slice_get_within c.args.self.now c.args.place None c.requires.free) c.in-Ok-create.id c.in-Ok-create.ensures.call)

pub returns-in-Ok-create-clause-part : goal.returns-in-Ok-create-clause-part
returns-in-Ok-create-clause-part g c = creates_part _ _ c.args.name.now _ c.create.ensures.call

pub returns-in-Err-Failed-clause-part : goal.returns-in-Err-Failed-clause-part
returns-in-Err-Failed-clause-part g c = creates_part _ _ c.args.name.now _ c.create.ensures.call

pub returns-clause-part : goal.returns-clause-part
returns-clause-part g c = creates_part _ _ c.args.name.now _ c.create.ensures.call

pub returns-in_default-clause-part : goal.returns-in_default-clause-part
returns-in_default-clause-part g c = created_none _ c.args.name.now
