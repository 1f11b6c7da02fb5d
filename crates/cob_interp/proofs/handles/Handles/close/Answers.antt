use Rattle.std.proofs.Common.{Some, refl, sym, subst}
use Rattle.std.proofs.lemmas.Option.{slice_get_within}
use Rattle.cob_interp.specs.Tracking.{Ids, Tracks}
use Rattle.cob_interp.specs.Readying.{ClosesFor}
use Rattle.cob_interp.proofs.TrackLemmas.{tracks_closed}
use Rattle.cob_interp.proofs.HandleLemmas.{set_none, closes_for, refused_at}
use Rattle.cob_interp.proofs.handles.Handles.close.Goals as goal

pub returns-in_default-clause-emptied : goal.returns-in_default-clause-emptied
returns-in_default-clause-emptied g c =
    sym (set_none c.args.self.now c.args.place (λ id writes is. c.in_default.ensures.none refl id writes is))

pub put_held-requires : goal.put_held-requires
put_held-requires g c = slice_get_within c.args.self.now c.args.place (Some c.in-Some.held) c.in-Some.ensures.some

pub returns-in-Ok-clause-tracks : goal.returns-in-Ok-clause-tracks
returns-in-Ok-clause-tracks g c =
    subst (λ (ids : Ids). Tracks (g.F.Files.state c.args.files.now) (g.F.Files.state c.close.new.self) c.args.self.now ids)
    (sym c.put_held.ensures)
    (tracks_closed _ _ c.args.self.now c.args.place c.in-Some.held.id c.in-Some.held.writes
    (slice_get_within c.args.self.now c.args.place (Some c.in-Some.held) c.in-Some.ensures.some) c.in-Some.ensures.some
    c.close.ensures.call.closed c.close.ensures.call.others c.requires.live)

pub returns-in-Err-clause-tracks : goal.returns-in-Err-clause-tracks
returns-in-Err-clause-tracks g c =
    subst (λ (ids : Ids). Tracks (g.F.Files.state c.args.files.now) (g.F.Files.state c.close.new.self) c.args.self.now ids)
    (sym c.put_held.ensures)
    (tracks_closed _ _ c.args.self.now c.args.place c.in-Some.held.id c.in-Some.held.writes
    (slice_get_within c.args.self.now c.args.place (Some c.in-Some.held) c.in-Some.ensures.some) c.in-Some.ensures.some
    c.close.ensures.call.closed c.close.ensures.call.others c.requires.live)

pub returns-in-Ok-clause-closes : goal.returns-in-Ok-clause-closes
returns-in-Ok-clause-closes g c =
    subst (λ (ids : Ids). ClosesFor (g.F.Files.state c.args.files.now) (g.F.Files.state c.close.new.self) c.args.self.now ids
    c.args.place) (sym c.put_held.ensures)
    (closes_for _ _ c.args.self.now c.args.place c.in-Some.held.id c.in-Some.held.writes c.in-Some.ensures.some
    (slice_get_within c.args.self.now c.args.place (Some c.in-Some.held) c.in-Some.ensures.some) c.requires.live
    c.in-Ok.ensures.call)

pub returns-in-Err-clause-refused : goal.returns-in-Err-clause-refused
returns-in-Err-clause-refused g c =
    refused_at _ _ c.args.self.now c.args.place c.in-Some.held.id c.in-Some.held.writes c.in-Some.ensures.some
    (slice_get_within c.args.self.now c.args.place (Some c.in-Some.held) c.in-Some.ensures.some) c.requires.live
    _ c.in-Err.ensures.call _ c.close_fault.ensures
