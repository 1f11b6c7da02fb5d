use Rattle.std.proofs.Common.{◌+◌, sym, subst, arith}
use Rattle.std.proofs.lemmas.Result.{err_from_is_err_and}
use Rattle.cob_runs.specs.State.{World}
use Rattle.cob_interp.specs.Readying.{Sees, AreEmptied}
use Rattle.cob_interp.specs.Setting.{paths_of}
use Rattle.cob_interp.specs.Touching.{makes_none}
use Rattle.cob_interp.specs.Tracking.{AreWritten}
use Rattle.cob_interp.proofs.Declared.{declared_below}
use Rattle.cob_interp.proofs.Emptying.{emptied_keeps, emptied_next, emptied_none, loses_sees, sees_out, sees_pass, sees_stay, touches_sees}
use Rattle.cob_interp.proofs.Passing.{ids_stay, ids_pass}
use Rattle.cob_interp.proofs.Putting.{refused_on}
use Rattle.cob_interp.proofs.Touched.{touches_stay}
use Rattle.cob_interp.proofs.TrackLemmas.{tracks_ids}
use Rattle.cob_interp.proofs.Written.{written_ids, written_on}
use Rattle.cob_interp.proofs.runs.write_all.Goals as goal

pub loop-place-init : goal.loop-place-init
loop-place-init g c = record {
  sees = sees_stay (paths_of c.args.setting.now) _ c.args.world.now.world;
  none = emptied_none _;
  live = c.requires.live;
  written = c.requires.written;
  ids = ids_stay _;
}

pub loop-place-preserved : goal.loop-place-preserved
loop-place-preserved g c =
    let kept = c.loop-place.invariant in
    let out = c.in_ok-write_out.ensures.goes in
    let w = c.loop-place.world.world in
    let is = c.in_ok-write_out.ensures.emptied in
    record {
      sees = subst (λ (u : World). Sees (paths_of c.args.setting.now) (g.F.Files.state c.args.files.now)
          (g.F.Files.state c.write_out.new.files) c.args.world.now.world u) (sym is)
          (sees_pass (paths_of c.args.setting.now) _ _ _ _ _ _ kept.sees
          (sees_out c.args.setting.now c.requires.ready.distinct w c.loop-place.place _ _ out));
      none = subst (λ (u : World). AreEmptied u.files (c.loop-place.place + 1)) (sym is)
          (emptied_next w c.loop-place.place kept.none);
      live = (tracks_ids _ _ _ c.in_ok-write_out.ensures.ids kept.live).live;
      written = subst (λ (u : World). AreWritten (paths_of c.args.setting.now) (g.F.Files.state c.write_out.new.files)
          c.args.handles.now u.files) (sym is)
          (written_on (paths_of c.args.setting.now) _ c.args.handles.now w.files _
          (emptied_keeps w c.loop-place.place out.file out.has)
          (written_ids (paths_of c.args.setting.now) _ _ c.args.handles.now kept.live w.files kept.written
          c.in_ok-write_out.ensures.ids));
      ids = ids_pass _ _ _ kept.ids c.in_ok-write_out.ensures.ids;
    }

pub write_out-requires-clause-declared : goal.write_out-requires-clause-declared
write_out-requires-clause-declared g c =
    declared_below c.args.setting.now c.loop-place.place (omega (arith, c.requires.ready.count, c.loop-place-test.true))

pub returns-in_err-write_out-clause-writes : goal.returns-in_err-write_out-clause-writes
returns-in_err-write_out-clause-writes g c =
    let p = err_from_is_err_and c.from_residual.result c.from_residual.ensures.1 in
    rw (p.1, p.2)
    (refused_on (g.F.Files.state c.args.files.now) (g.F.Files.state c.loop-place.files)
    (g.F.Files.state c.write_out.new.files) _ c.loop-place.invariant.sees.well c.in_err-write_out.ensures.goes)

pub returns-in_err-write_out-clause-touches : goal.returns-in_err-write_out-clause-touches
returns-in_err-write_out-clause-touches g c =
    touches_sees (paths_of c.args.setting.now) makes_none _ _ _ c.args.world.now.world _ c.loop-place.invariant.sees
    c.in_err-write_out.ensures.touches

pub returns-in_err-write_out-clause-ids : goal.returns-in_err-write_out-clause-ids
returns-in_err-write_out-clause-ids g c = ids_pass _ _ _ c.loop-place.invariant.ids c.in_err-write_out.ensures.ids

pub returns-clause-touches : goal.returns-clause-touches
returns-clause-touches g c =
    touches_sees (paths_of c.args.setting.now) makes_none _ _ _ c.args.world.now.world _ c.loop-place.invariant.sees
    (touches_stay (paths_of c.args.setting.now) makes_none _ _)

pub returns-in_err-write_out-clause-fault : goal.returns-in_err-write_out-clause-fault
returns-in_err-write_out-clause-fault g c =
    let p = err_from_is_err_and c.from_residual.result c.from_residual.ensures.1 in
    rw (p.1, p.2) c.in_err-write_out.ensures.fault

pub returns-in_err-write_out-clause-loses : goal.returns-in_err-write_out-clause-loses
returns-in_err-write_out-clause-loses g c =
    let p = err_from_is_err_and c.from_residual.result c.from_residual.ensures.1 in
    rw p.1
    (loses_sees (paths_of c.args.setting.now) _ _ _ c.args.world.now.world _ c.loop-place.invariant.sees
    c.in_err-write_out.ensures.loses)
