use Rattle.std.proofs.Common.{◌+◌, None, length, sym, ap, subst, ◌∙◌, arith}
use Rattle.std.specs.Prelude.{slice_get, IfErr}
use Rattle.cob_interp.specs.Tracking.{Ids, IsHeld}
use Rattle.cob_interp.specs.Readying.{ClosesAll, IsFirst}
use Rattle.cob_interp.proofs.TrackLemmas.{get_set_other, tracks_pass}
use Rattle.cob_interp.proofs.HandleLemmas.{none_below, closes_more, Before, first_all, first_more}
use Rattle.cob_interp.proofs.Purposes.{set_length}
use Rattle.cob_interp.proofs.handles.Handles.close_all.Goals as goal

pub loop-place-preserved : goal.loop-place-preserved
loop-place-preserved g c =
    let kept = c.loop-place.invariant in
    record {
      live = c.close.ensures.tracks.live;
      tracks = tracks_pass _ _ _ _ _ _ kept.tracks c.close.ensures.tracks;
      below = λ p id writes before is. none_below c.loop-place.self c.loop-place.place kept.below p id writes before
          (subst (λ (ids : Ids). IsHeld ids p writes id) c.close.ensures.emptied is);
      size = ap (λ (ids : Ids). length ids) c.close.ensures.emptied ∙ set_length c.loop-place.self c.loop-place.place None
          ∙ kept.size;
      same = c.close.ensures.same ∙ kept.same;
      counts = subst (λ r. ClosesAll (g.F.Files.state c.args.files.now) (g.F.Files.state c.close.new.files) r)
          (sym c.first_of-closed.ensures) (closes_more _ _ _ _ _ kept.counts c.close.ensures.counts);
      rest = λ p past.
          ap (λ (ids : Ids). slice_get ids p) c.close.ensures.emptied
          ∙ get_set_other c.loop-place.self c.loop-place.place p None (λ same. absurd (omega (arith, past, same)))
          ∙ kept.rest p (omega (arith, past));
      first = subst (λ r. IfErr r (λ e. IsFirst (Before c.args.self.now (c.loop-place.place + 1))
          (g.F.Files.state c.args.files.now) (g.F.Files.state c.close.new.files) e)) (sym c.first_of-closed.ensures)
          (first_more c.args.self.now c.loop-place.self c.loop-place.place kept.rest _ _ _ c.loop-place.closed c.close.result
          kept.counts c.close.ensures.counts kept.first c.close.ensures.refused);
    }

pub returns-clause-first : goal.returns-clause-first
returns-clause-first g c =
    first_all c.args.self.now c.loop-place.place _ _ c.loop-place.closed c.loop-place.invariant.first
