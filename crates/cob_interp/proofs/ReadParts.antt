-- What comes of the part of a READ's first node, by what it answers.
use Rattle.std.proofs.Common.{◌≡◌, ℕ, Some, None, Result, Ok, Err, refl, sym, subst}
use Rattle.std.specs.Prelude.{slice_get}
use Rattle.batch_io.specs.FilesState.{FilesState}
use Rattle.cob_plan.specs.declared.node.Op.TheVariants as op
use Rattle.cob_program.specs.ActView.{plain_act}
use Rattle.cob_runs.specs.State.{World, with_files}
use Rattle.cob_runs.specs.Acts.{take_one}
use Rattle.cob_world.specs.Calling.{replaced}
use Rattle.cob_interp.specs.declared.ends.RunEnd.{RunEnd}
use Rattle.cob_interp.specs.declared.ends.RunEnd.TheVariants as end
use Rattle.cob_interp.specs.declared.parts.Call.TheVariants as call
use Rattle.cob_interp.specs.declared.setting.Setting.{Setting}
use Rattle.cob_interp.specs.declared.setting.Standing.{Standing}
use Rattle.cob_interp.specs.Tracking.{Ids, AreOpen, ArePlaced, AreWritten, AreLeft, KeepsPlaces}
use Rattle.cob_interp.specs.Readying.{HasRest, IsRestOr, IsReadOn, IsSize, settled}
use Rattle.cob_interp.specs.Doing.{DoesPart, DoesRead, ReadsPart}
use Rattle.cob_interp.specs.Ends.{UnlessRefused}
use Rattle.cob_interp.specs.Setting.{paths_of, IsCall, StartsAt}
use Rattle.cob_interp.proofs.Written.{written_placed, written_given, unless_weaker, left_by, left_behind}
use Rattle.cob_interp.proofs.Placing.{read_done, read_placed, idle_placed}
use Rattle.cob_interp.proofs.RecordReads.{read_act, on_file}

-- where the next record isn't given, the world is as it was
module _ (s : Setting) (x : Standing) (step : ℕ) (old new : FilesState) (ids : Ids) (f size before : ℕ) (w : World)
    (is : IsSize s f size) where
  pub rest_part : (e : RunEnd) → IsRestOr old new ids f size before e → ReadsPart s x step old new ids f before w w
      (Err e)
  rest_part end.ReadFault refused = refused
  rest_part end.WriteFault refused = refused
  rest_part end.Memory refused = tt
  rest_part (end.Ragged place count) refused = (
    refused.0,
    refl,
    (is.decl, is.declared, subst (λ (n : ℕ). HasRest old new ids f n before count) (sym is.size_) refused.1),
  )
  rest_part (end.StepsSpent count) refused = absurd refused
  rest_part (end.IoStop status statement) refused = absurd refused
  rest_part (end.Fault kind statement step_) refused = absurd refused

-- ids stand where the files are read
module _ (s : Setting) (node : ℕ) (x : Standing) (starts : StartsAt s node x) (f : ℕ)
    (reads : IsCall (plain_act x.statement.now.act.now) (call.Read f)) (step found end_to bad : ℕ)
    (op_is : x.plan_node.now.op ≡ op.Read found end_to bad) (old new : FilesState) (ids : Ids) (w : World)
    (placed : ArePlaced (paths_of s) old ids w.files) where
  done : (given v : World) (result : Result ℕ RunEnd) → DoesPart s x step given v result
      → UnlessRefused result (v ≡ (take_one s.program.now.layout None f given).0)
  done given v result does =
      let a = read_act (plain_act x.statement.now.act.now) f reads in
      read_done s x step given v (plain_act x.statement.now.act.now) starts.is.statement.its result does f a.0 a.1 a.2
      a.3 found end_to bad op_is

  pub idle_part_left : (v : World) (result : Result ℕ RunEnd) → IsReadOn (slice_get w.files f) None
      → DoesPart s x step w v result → AreLeft (paths_of s) old ids v.files result
  idle_part_left v result idle does =
      left_behind result (paths_of s) old ids w.files v.files
      (unless_weaker result (v ≡ (take_one s.program.now.layout None f w).0) (KeepsPlaces w.files v.files)
      (λ is. idle_placed s.program.now.layout w v f idle is) (done w v result does)) placed

  module _ (live : AreOpen old ids) (before : ℕ) (on : IsReadOn (slice_get w.files f) (Some before)) where
    does_left : (v : World) (result : Result ℕ RunEnd) → DoesRead s x step old new ids f before w v result
        → AreLeft (paths_of s) new ids v.files result
    does_left v result d =
        let g = on_file (slice_get w.files f) before on in
        left_by result (paths_of s) new ids v.files
        (unless_weaker result
        (d.mid ≡ (take_one s.program.now.layout None f (with_files w (replaced f (Some d.window) 0 w.files))).0)
        (ArePlaced (paths_of s) new ids v.files)
        (λ is. subst (λ (u : World). ArePlaced (paths_of s) new ids u.files) (sym d.settles)
        (subst (λ (n : ℕ). ArePlaced (paths_of s) new ids (settled f n d.mid).files) g.3
        (read_placed s old new ids live w placed f g.0 d.decl g.1 g.2 d.declared d.window d.gives d.mid is)))
        (done _ d.mid result d.does))

    pub window_part_left : (v : World) (result : Result ℕ RunEnd)
        → ReadsPart s x step old new ids f before w v result
        → AreLeft (paths_of s) new ids v.files result
    window_part_left v (Ok to) d = does_left v (Ok to) d
    window_part_left v (Err end.ReadFault) d = tt
    window_part_left v (Err end.WriteFault) d = tt
    window_part_left v (Err end.Memory) d = tt
    window_part_left v (Err (end.Ragged place count)) d =
        let rest = d.2.2 in
        subst (λ (u : World). AreWritten (paths_of s) new ids u.files) (sym d.1)
        (written_given (paths_of s) old new ids live w.files (written_placed (paths_of s) old ids w.files placed) f rest.id
        rest.is rest.left rest.given)
    window_part_left v (Err (end.StepsSpent count)) d = does_left v (Err (end.StepsSpent count)) d
    window_part_left v (Err (end.IoStop status statement)) d = does_left v (Err (end.IoStop status statement)) d
    window_part_left v (Err (end.Fault kind statement step_)) d = does_left v (Err (end.Fault kind statement step_)) d
