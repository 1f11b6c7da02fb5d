-- What a READ's first node comes to.
use Rattle.std.proofs.Common.{◌≡◌, ℕ, ◌+◌, ◌<◌, ◌⊎◌, true, false, List, [], length, Option, Some, None, Result, Ok, Err, inl, inr, refl, sym, ap, subst, ◌∙◌, arith}
use Rattle.std.specs.Prelude.{slice_get}
use Rattle.std.specs.Option.{option_map_or}
use Rattle.batch_io.specs.FilesState.{Contents, FilesState, known_bytes}
use Rattle.batch_io.specs.SinkState.{SinkState}
use Rattle.cob_data.specs.declared.layout.FileDecl.{FileDecl}
use Rattle.cob_plan.specs.declared.node.Op.TheVariants as op
use Rattle.cob_program.specs.Act.{Act, Phrase, Stmts, read}
use Rattle.cob_program.specs.ActView.{plain_act}
use Rattle.cob_runs.specs.Files.{File, file, Mode, closed, reading, writing, bytes_in}
use Rattle.cob_runs.specs.State.{World, with_files}
use Rattle.cob_runs.specs.Acts.{decl_at, take_one}
use Rattle.cob_world.specs.Calling.{replaced}
use Rattle.cob_interp.specs.declared.ends.RunEnd.{RunEnd}
use Rattle.cob_interp.specs.declared.ends.RunEnd.TheVariants as end
use Rattle.cob_interp.specs.declared.parts.Call.TheVariants as call
use Rattle.cob_interp.specs.declared.setting.Setting.{Setting}
use Rattle.cob_interp.specs.declared.setting.Standing.{Standing}
use Rattle.cob_interp.specs.Ends.{is_cut, cut_file}
use Rattle.cob_interp.specs.Told.{seen, seen_file, seen_files, AreSynced, AreDistinct}
use Rattle.cob_interp.specs.Tracking.{Ids, ArePlaced}
use Rattle.cob_interp.specs.Readying.{GivesWindow, HasRest, IsReadOn, settled}
use Rattle.cob_interp.specs.Doing.{DoesPart, DoesRead, ReadsPart}
use Rattle.cob_interp.specs.Runs.{Outside, outside}
use Rattle.cob_interp.specs.Running.{Stands, Arrives}
use Rattle.cob_interp.specs.Setting.{program_of, paths_of, IsCall, StartsAt}
use Rattle.cob_interp.proofs.SeenFiles.{SeenAt, seen_at}
use Rattle.cob_interp.proofs.OneFile.{window_follows, window_uncut, rest_cut, rest_length}
use Rattle.cob_interp.proofs.Calls.{take_one_follows}
use Rattle.cob_interp.proofs.Windows.{bytes_told, given_split, left_none}
use Rattle.cob_interp.proofs.ReadLemmas.{TakeFollows, take_idle, take_follows}
use Rattle.cob_interp.proofs.ReadLeads.{stands_moved, read_leads}
use Rattle.cob_interp.proofs.CloseLemmas.{rose_on}
use Rattle.cob_interp.proofs.Taking.{read_underway, ragged_rests}

-- what is seen of a file that is kept
sees_file : (told : Contents) (paths : List (List ℕ)) (fs : List File) (place : ℕ) (f : File) → AreSynced told paths fs
    → slice_get fs place ≡ Some f → SeenAt told paths place (Some f) (slice_get (seen_files told paths fs) place)
sees_file told paths fs place f s has =
    subst (λ (o : Option File). SeenAt told paths place o (slice_get (seen_files told paths fs) place)) has
    (seen_at told paths fs place s)

-- ---- a file that is read on

module _ (s : Setting) (old new : FilesState) (ids : Ids) (w : World) (apart : AreDistinct (paths_of s))
    (placed : ArePlaced (paths_of s) old ids w.files) (place : ℕ) (f : File) (d : FileDecl)
    (has : slice_get w.files place ≡ Some f) (mode_ : f.mode ≡ reading false)
    (declared : decl_at s.program.now.layout place ≡ Some d) (told : Contents) (text : List ℕ)
    (e : known_bytes old ≡ Some told) (synced : AreSynced told (paths_of s) w.files) where
  abbrev Whole : List ℕ → List ℕ → Type 0
  Whole window left = (length window ≡ d.length) ⊎ ((window ≡ []) × (0 < d.length) × (left ≡ []))

  module _ (window : List ℕ) (gives : GivesWindow old new ids place d.length window) where
    -- the next record, or nothing at the end
    pub window_taken : TakeFollows told (paths_of s) text (settled place f.place)
        (take_one s.program.now.layout None place (with_files w (replaced place (Some window) 0 w.files)))
        (take_one s.program.now.layout None place (seen told (paths_of s) text w))
    window_taken =
        let sees = sees_file told (paths_of s) w.files place f synced has in
        let b = bytes_told told sees.0 f mode_ sees.3 in
        let g = given_split old new (paths_of s) ids w.files placed place gives.id sees.0 f gives.is sees.1 has mode_
        window gives.given told e b.0 b.1 in
        let whole : Whole window g.0 = elim gives.whole [
          | inl full ↦ inl full
          | inr none ↦ inr (none.0, none.1, left_none _ g.0 g.1 none.2)
        ] in
        take_follows s.program.now.layout told (paths_of s) text apart w synced place sees.0 f d sees.1 has declared
        sees.2 window mode_ (window_follows told sees.0 d.length f b.0 window g.0 mode_ b.1 b.2 g.2 whole)

    pub window_free : cut_file (decl_at s.program.now.layout place) (slice_get (seen_files told (paths_of s) w.files) place)
        ≡ false
    window_free =
        let sees = sees_file told (paths_of s) w.files place f synced has in
        let b = bytes_told told sees.0 f mode_ sees.3 in
        let g = given_split old new (paths_of s) ids w.files placed place gives.id sees.0 f gives.is sees.1 has mode_
        window gives.given told e b.0 b.1 in
        let whole : Whole window g.0 = elim gives.whole [
          | inl full ↦ inl full
          | inr none ↦ inr (none.0, none.1, left_none _ g.0 g.1 none.2)
        ] in
        rw (declared, sees.2) (window_uncut told sees.0 d.length f b.0 window g.0 mode_ b.1 b.2 g.2 whole)

  -- a rest that is no record
  pub rest_cuts : (before count : ℕ) → f.place ≡ before → HasRest old new ids place d.length before count
      → (count ≡ option_map_or (λ f. length (bytes_in f)) (slice_get (seen_files told (paths_of s) w.files) place) 0)
      × (cut_file (decl_at s.program.now.layout place) (slice_get (seen_files told (paths_of s) w.files) place) ≡ true)
  rest_cuts before count before_ rest =
      let sees = sees_file told (paths_of s) w.files place f synced has in
      let b = bytes_told told sees.0 f mode_ sees.3 in
      let g = given_split old new (paths_of s) ids w.files placed place rest.id sees.0 f rest.is sees.1 has mode_
      rest.left rest.given told e b.0 b.1 in
      let none : g.0 ≡ [] = left_none _ g.0 g.1 rest.ended in
      let long = rest_length told sees.0 d.length f b.0 rest.left g.0 mode_ b.1 b.2 g.2 none in
      let counted = rest.counted in (
        rw sees.2 (omega (arith, long, counted, before_)),
        rw (declared, sees.2) (rest_cut told sees.0 d.length f b.0 rest.left g.0 mode_ b.1 b.2 g.2 rest.some rest.few none),
      )

-- ---- a file that isn't, or whose end was met

idle_uncut : (d : FileDecl) (told : Contents) (path : List ℕ) (content : Option (List ℕ)) (m : Mode) (place : ℕ)
    → (m ≡ reading false → ⊥) → is_cut d (seen_file told path (file content m place)) ≡ false
idle_uncut d told path content closed place idle = refl
idle_uncut d told path content (reading true) place idle = refl
idle_uncut d told path content (reading false) place idle = absurd (idle refl)
idle_uncut d told path content writing place idle = refl

uncut_by : (decl : Option FileDecl) (told : Contents) (paths : List (List ℕ)) (place : ℕ) (o other : Option File)
    → SeenAt told paths place o other → IsReadOn o None → cut_file decl other ≡ false
uncut_by None told paths place o other sees idle = refl
uncut_by (Some d) told paths place None None sees idle = refl
uncut_by (Some d) told paths place None (Some g) sees idle = cc
uncut_by (Some d) told paths place (Some f) None sees idle = refl
uncut_by (Some d) told paths place (Some f) (Some g) sees idle =
    let same : g ≡ seen_file told sees.0 f = cc in
    ap (is_cut d) same ∙ idle_uncut d told sees.0 f.content f.mode f.place idle

idle_file : (o : Option File) → IsReadOn o None → (f : File) → o ≡ Some f → f.mode ≡ reading false → ⊥
idle_file None idle f is mode_ = cc
idle_file (Some g) idle f is mode_ =
    let same : g ≡ f = cc in idle (ap (λ (x : File). x.mode) same ∙ mode_)

pub on_file : (o : Option File) (before : ℕ) → IsReadOn o (Some before)
    → (f : File) × (o ≡ Some f) × (f.mode ≡ reading false) × (f.place ≡ before)
on_file None before on = absurd on
on_file (Some f) before on = (f, refl, on.0, on.1)

pub read_act : (a : Act) (f : ℕ) → IsCall a (call.Read f)
    → (into : Option ℕ) × (end_ : Phrase) × (fine : Stmts) × (a ≡ read f into end_ fine)
read_act (read g into end_ fine) f is = (into, end_, fine, ap (λ (n : ℕ). read n into end_ fine) (sym is))
read_act _ f is = absurd is

-- ---- all of it

module _ (s : Setting) (node : ℕ) (x : Standing) (starts : StartsAt s node x) (apart : AreDistinct (paths_of s)) (f : ℕ)
    (reads : IsCall (plain_act x.statement.now.act.now) (call.Read f)) (budget steps step : ℕ)
    (counted : step ≡ steps + 1) (within : steps < budget) (start : Outside) (sink : SinkState)
    (old new : FilesState) (w : World)
    (stands : Stands (program_of s) s.graph.now (paths_of s) start (outside old sink) w steps steps node)
    (found end_to bad : ℕ) (op_is : x.plan_node.now.op ≡ op.Read found end_to bad) where
  abbrev Arriving : FilesState → World → Result ℕ RunEnd → Type 0
  Arriving files v result =
      Arrives (program_of s) s.graph.now (paths_of s) budget start (outside files sink) v step result

  pub idle_arrives : (v : World) (result : Result ℕ RunEnd) → IsReadOn (slice_get w.files f) None
      → DoesPart s x step w v result → Arriving old v result
  idle_arrives v result idle does =
      let a = read_act (plain_act x.statement.now.act.now) f reads in
      read_leads s budget x step node sink old old w w v (λ u. u) starts.is found end_to bad f a.0 a.1 a.2 op_is a.3
      (record { reading = refl; writing = refl }) refl
      (λ told text e synced. take_idle told (paths_of s) text _ _
      (take_one_follows s.program.now.layout told (paths_of s) text apart w synced f
      (λ g has mode_. idle_file (slice_get w.files f) idle g has mode_)))
      result does start (omega (arith, counted, within))
      (read_underway s node x starts budget steps step counted within start (outside old sink) w stands f reads
      (λ told text e synced. uncut_by (decl_at s.program.now.layout f) told (paths_of s) f (slice_get w.files f)
      (slice_get (seen_files told (paths_of s) w.files) f) (seen_at told (paths_of s) w.files f synced) idle))

  module _ (ids : Ids) (placed : ArePlaced (paths_of s) old ids w.files) (before : ℕ)
      (on : IsReadOn (slice_get w.files f) (Some before)) (same : known_bytes new ≡ known_bytes old) where
    does_arrive : (v : World) (result : Result ℕ RunEnd) → DoesRead s x step old new ids f before w v result
        → Arriving new v result
    does_arrive v result d =
        let a = read_act (plain_act x.statement.now.act.now) f reads in
        let g = on_file (slice_get w.files f) before on in
        subst (λ (u : World). Arriving new u result) (sym d.settles)
        (read_leads s budget x step node sink old new w (with_files w (replaced f (Some d.window) 0 w.files)) d.mid
        (settled f before) starts.is found end_to bad f a.0 a.1 a.2 op_is a.3 d.gives.well same
        (λ told text e synced. subst (λ (n : ℕ). TakeFollows told (paths_of s) text (settled f n)
        (take_one s.program.now.layout None f (with_files w (replaced f (Some d.window) 0 w.files)))
        (take_one s.program.now.layout None f (seen told (paths_of s) text w))) g.3
        (window_taken s old new ids w apart placed f g.0 d.decl g.1 g.2 d.declared told text e synced d.window d.gives))
        result d.does start (omega (arith, counted, within))
        (read_underway s node x starts budget steps step counted within start (outside old sink) w stands f reads
        (λ told text e synced.
        window_free s old new ids w apart placed f g.0 d.decl g.1 g.2 d.declared told text e synced d.window d.gives)))

    pub window_arrives : (v : World) (result : Result ℕ RunEnd) → ReadsPart s x step old new ids f before w v result
        → Arriving new v result
    window_arrives v (Ok to) d = does_arrive v (Ok to) d
    window_arrives v (Err end.ReadFault) rose =
        rose_on start.files.reading old.reading new.reading stands.well.reading rose
    window_arrives v (Err end.WriteFault) rose =
        inl (rose_on start.files.writing old.writing new.writing stands.well.writing rose)
    window_arrives v (Err end.Memory) d = tt
    window_arrives v (Err (end.Ragged place count)) d =
        let g = on_file (slice_get w.files f) before on in
        let rest = d.2.2 in
        subst (λ (n : ℕ). Arriving new v (Err (end.Ragged n count))) (sym d.0)
        (subst (λ (u : World). Arriving new u (Err (end.Ragged f count))) (sym d.1)
        (ragged_rests s node x starts budget steps step counted within start (outside new sink) w
        (stands_moved (program_of s) s.graph.now (paths_of s) start sink old new w steps steps node rest.well same stands)
        f count reads
        (λ told e synced. rest_cuts s old new ids w apart placed f g.0 d.2.0 g.1 g.2 d.2.1 told [] (sym same ∙ e) synced before
        count g.3 rest)))
    window_arrives v (Err (end.StepsSpent count)) d = does_arrive v (Err (end.StepsSpent count)) d
    window_arrives v (Err (end.IoStop status statement)) d = does_arrive v (Err (end.IoStop status statement)) d
    window_arrives v (Err (end.Fault kind statement step_)) d = does_arrive v (Err (end.Fault kind statement step_)) d
