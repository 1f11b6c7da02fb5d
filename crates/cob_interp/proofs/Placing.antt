-- Where ids stand behind an OPEN, a CLOSE and a READ.
use Rattle.std.proofs.Common.{◌≡◌, ◌≢◌, ℕ, ◌+◌, ◌<◌, ◌⊎◌, Bool, true, false, List, [], length, Option, Some, None, Result, Ok, Err, inl, inr, refl, sym, ap, subst, ◌∙◌, take_all, arith}
use Rattle.std.specs.Prelude.{Contains, slice_get, slice_set, option_map, IsSome, IfSome}
use Rattle.std.proofs.lemmas.Bool.{cases_eq, false≢true}
use Rattle.std.proofs.lemmas.Bool.Decides.{nat_tests}
use Rattle.batch_io.specs.FilesState.{FilesState, Handle, Purpose, Reading, known_handle, moved_by}
use Rattle.cob_tree.specs.declared.fault.Kind.{Kind}
use Rattle.cob_data.specs.declared.layout.FileDecl.{FileDecl}
use Rattle.cob_data.specs.declared.layout.Layout.{Layout}
use Rattle.cob_runs.specs.Files.{File, file, Mode, closed, reading, writing, opened, Taken, taken_from, record_at, after_read}
use Rattle.cob_runs.specs.State.{World, with_files}
use Rattle.cob_runs.specs.Acts.{decl_at, file_act, open_one, take_on, take_one}
use Rattle.cob_world.specs.Calling.{replaced}
use Rattle.cob_interp.specs.declared.handles.Held.{Held}
use Rattle.cob_interp.specs.Tracking.{Ids, IsHeld, AreOpen, IsOpen, purpose_in, purposes_of, purpose_for, purposes_for, StandAt, ArePlaced, KeepsPlaces}
use Rattle.cob_interp.specs.Readying.{GivesWindow, IsReadOn, settled, settled_file}
use Rattle.cob_program.specs.declared.act.Opening.{Opening}
use Rattle.cob_interp.specs.Readying.{StandsOrBegins}
use Rattle.cob_interp.proofs.Places.{got_in_set, set_keeps_as}
use Rattle.cob_interp.proofs.TrackLemmas.{get_set_other, same_slot, stand_on, places_stay}
use Rattle.cob_interp.proofs.Purposes.{map_set, purposes_set, purposes_kept, set_length, count_set}
use Rattle.cob_interp.proofs.OneFile.{takes, from_place, from_end}
use Rattle.cob_plan.specs.declared.node.Op.TheVariants as op
use Rattle.cob_plan.specs.Plan.{op_edges}
use Rattle.cob_program.specs.Act.{Act, Phrase, Stmts, open_files, read}
use Rattle.cob_runs.specs.declared.action.Action.{Action}
use Rattle.cob_runs.specs.Effects.{Effect, act_at, effect, effect_of}
use Rattle.cob_interp.specs.declared.ends.RunEnd.{RunEnd}
use Rattle.cob_interp.specs.declared.setting.Setting.{Setting}
use Rattle.cob_interp.specs.declared.setting.Standing.{Standing}
use Rattle.cob_interp.specs.Setting.{program_of, paths_of}
use Rattle.cob_interp.specs.Doing.{IsPlain, DoesPart}
use Rattle.cob_interp.proofs.Onward.{effect_by_act}
use Rattle.cob_interp.proofs.Following.{plain_edge}
use Rattle.cob_interp.specs.Ends.{UnlessRefused}
use Rattle.cob_interp.proofs.CallsLead.{never_faults}
use Rattle.cob_interp.proofs.Places.{plain_keeps, same_keeps, where_keeps}
use Rattle.cob_interp.proofs.Closings.{EndsAt, where_done, open_done}
use Rattle.cob_interp.proofs.ReadLemmas.{get_set, three, taken_test, kept_files}

-- ---- handles

moved_handle : (o new : Option Handle) (path : List ℕ) (place n : ℕ) → new ≡ option_map (moved_by n) o
    → IfSome o (λ handle. handle ≡ record { name = path; place = place })
    → IfSome new (λ handle. handle ≡ record { name = path; place = place + n })
moved_handle o new path place n e h =
    subst (λ (x : Option Handle). IfSome x (λ handle. handle ≡ record { name = path; place = place + n })) (sym e)
    (by o h) where
      by : (x : Option Handle) → IfSome x (λ handle. handle ≡ record { name = path; place = place })
          → IfSome (option_map (moved_by n) x) (λ handle. handle ≡ record { name = path; place = place + n })
      by None h_ = tt
      by (Some handle) h_ = ap (moved_by n) h_

-- ---- a READ with a window

-- where the kept file stands behind it
kept_place : (size : ℕ) (window : List ℕ) → (length window ≡ size) ⊎ ((window ≡ []) × (0 < size))
    → (after_read size (file (Some window) (reading false) 0)).file.place ≡ length window
kept_place size window (inl e) =
    let p : 0 + size ≡ length window = omega arith in
    ap (λ (t : Taken). t.file.place) (takes size (file (Some window) (reading false) 0) (Some window) refl
    (from_place size 0 window window (grind (arith, nat_tests)) (take_all size window (omega arith)))) ∙ p
kept_place size window (inr e) =
    let h : length window ≡ 0 = ap (λ (l : List ℕ). length l) e.0 in
    let some = e.1 in
    ap (λ (t : Taken). t.file.place) (takes size (file (Some window) (reading false) 0) None refl
    (from_end size 0 window (grind (arith, nat_tests)))) ∙ sym h

module _ (old new : FilesState) (paths : List (List ℕ)) (ids : Ids) (live : AreOpen old ids) (files : List File)
    (placed : ArePlaced paths old ids files) (place size : ℕ) (f g : File) (has : slice_get files place ≡ Some f)
    (mode_ : f.mode ≡ reading false) (window : List ℕ) (gives : GivesWindow old new ids place size window)
    (stands_at : g.place ≡ f.place + length window) (still : purpose_in g.mode ≡ purpose_in f.mode) where
  here : (id : ℕ) (writes : Bool) (path : List ℕ) → IsHeld ids place writes id → slice_get paths place ≡ Some path
      → IfSome (known_handle new id) (λ handle. handle ≡ record { name = path; place = g.place })
  here id writes path is at =
      let same : gives.id ≡ id = ap (λ (x : Held). x.id)
      (same_slot (record { id = gives.id; writes = false }) (record { id = id; writes = writes }) (sym gives.is ∙ is)) in
      let reads : IsOpen f.mode = subst IsOpen (sym mode_) tt in
      subst (λ (n : ℕ). IfSome (known_handle new id) (λ handle. handle ≡ record { name = path; place = n }))
      (sym stands_at)
      (moved_handle (known_handle old id) (known_handle new id) path f.place (length window)
      (subst (λ (n : ℕ). known_handle new n ≡ option_map (moved_by (length window)) (known_handle old n)) same
      gives.given.moved) (placed.stand place id writes path f is at has reads))

  window_stand : StandAt paths new ids (slice_set files place g)
  window_stand other id writes path h is at there reads = elim (cases_eq other place) [
    | inl same ↦
        let set : slice_get (slice_set files place g) place ≡ Some g = get_set files place f g has in
        let got : slice_get (slice_set files place g) place ≡ Some h =
        subst (λ (n : ℕ). slice_get (slice_set files place g) n ≡ Some h) same there in
        let e : g ≡ h = cc in
        subst (λ (x : File). IfSome (known_handle new id) (λ handle. handle ≡ record { name = path; place = x.place })) e
        (here id writes path (subst (λ (n : ℕ). IsHeld ids n writes id) same is)
        (subst (λ (n : ℕ). slice_get paths n ≡ Some path) same at))
    | inr apart ↦
        let before = placed.stand other id writes path h is at (sym (get_set_other files place other g apart) ∙ there) reads in
        let differs : id ≢ gives.id =
        λ e. apart (live.apart other place id writes false is (subst (λ (n : ℕ). IsHeld ids place false n) (sym e) gives.is)) in
        subst (λ (o : Option Handle). IfSome o (λ handle. handle ≡ record { name = path; place = h.place }))
        (sym (gives.given.others id differs
        (subst (λ (o : Option Purpose). IsSome o) (sym (live.purpose other id writes is)) refl))) before
  ]

  pub window_placed : ArePlaced paths new ids (slice_set files place g)
  window_placed = record {
    count = set_length files place g ∙ placed.count;
    stand = window_stand;
    purposes = placed.purposes ∙ sym (purposes_kept files place f g has still);
  }

-- ---- an OPEN and a CLOSE

module _ (l : Layout) (paths : List (List ℕ)) (old new : FilesState) (before after : Ids) (w : World) (o : Opening)
    (path : List ℕ) (f : File) (at : slice_get paths o.file ≡ Some path) (has : slice_get w.files o.file ≡ Some f)
    (stand : StandsOrBegins old new before after path o.file o.output f) (placed : StandAt paths old before w.files) where
  still_closed : f.mode ≡ closed → IsOpen f.mode → ⊥
  still_closed e reads = subst IsOpen e reads

  opened_place : (output : Bool) (content : Option (List ℕ)) (place : ℕ)
      → IsOpen (opened output (file content closed place)).0.mode → (opened output (file content closed place)).0.place ≡ 0
  opened_place true content place reads = refl
  opened_place false None place reads = absurd reads
  opened_place false (Some bytes) place reads = refl

  begun_place : f.mode ≡ closed → IsOpen (opened o.output f).0.mode → (opened o.output f).0.place ≡ 0
  begun_place e reads =
      subst (λ (m : Mode). IsOpen (opened o.output (file f.content m f.place)).0.mode
      → (opened o.output (file f.content m f.place)).0.place ≡ 0) (sym e) (opened_place o.output f.content f.place) reads

  open_same : (m : Mode) (content : Option (List ℕ)) (place : ℕ) → IsOpen m
      → (opened o.output (file content m place)).0 ≡ file content m place
  open_same closed content place reads = absurd reads
  open_same (reading ended) content place reads = refl
  open_same writing content place reads = refl

  abbrev Is : List File → Type 0
  Is fs = StandAt paths new after fs

  -- where the file is opened
  opened_in_set : Is (slice_set w.files o.file (opened o.output f).0)
  opened_in_set other id writes q g is at_ has_ reads = elim (got_in_set w.files o.file other (opened o.output f).0 g has_) [
    | inl here ↦
        let own : IsOpen (opened o.output f).0.mode =
        subst (λ (x : File). IsOpen x.mode) (sym here.1) reads in
        let same : path ≡ q = let h = subst (λ (n : ℕ). slice_get paths n ≡ Some q) here.0 at_ in cc in
        elim (stand.stand other id writes is) [
          | inl stays ↦
              let was : IsOpen f.mode = stays.2 here.0 own in
              let kept : (opened o.output f).0 ≡ f = open_same f.mode f.content f.place was in
              subst (λ (h : Option Handle). IfSome h (λ handle. handle ≡ record { name = q; place = g.place })) (sym stays.1)
              (subst (λ (x : File). IfSome (known_handle old id) (λ handle. handle ≡ record { name = q; place = x.place }))
              (sym kept ∙ here.1)
              (placed other id writes q f stays.0 at_ (subst (λ (n : ℕ). slice_get w.files n ≡ Some f) (sym here.0) has) was))
          | inr begins ↦
              subst (λ (x : File). IfSome (known_handle new id) (λ handle. handle ≡ record { name = q; place = x.place }))
              here.1
              (subst (λ (n : ℕ). IfSome (known_handle new id) (λ handle. handle ≡ record { name = q; place = n }))
              (sym (begun_place begins.1 own))
              (subst (λ (x : List ℕ). IfSome (known_handle new id) (λ handle. handle ≡ record { name = x; place = 0 }))
              same begins.2))
        ]
    | inr there ↦ elim (stand.stand other id writes is) [
      | inl stays ↦
          subst (λ (h : Option Handle). IfSome h (λ handle. handle ≡ record { name = q; place = g.place })) (sym stays.1)
          (placed other id writes q g stays.0 at_ there reads)
      | inr begins ↦
          let own : slice_get w.files o.file ≡ Some g = subst (λ (n : ℕ). slice_get w.files n ≡ Some g) begins.0 there in
          let same : f ≡ g = cc in
          absurd (still_closed begins.1 (subst (λ (x : File). IsOpen x.mode) (sym same) reads))
    ]
  ]

  -- where it isn't
  unopened : Is w.files
  unopened other id writes q g is at_ has_ reads = elim (stand.stand other id writes is) [
    | inl stays ↦
        subst (λ (h : Option Handle). IfSome h (λ handle. handle ≡ record { name = q; place = g.place })) (sym stays.1)
        (placed other id writes q g stays.0 at_ has_ reads)
    | inr begins ↦
        let own : slice_get w.files o.file ≡ Some g = subst (λ (n : ℕ). slice_get w.files n ≡ Some g) begins.0 has_ in
        let same : f ≡ g = cc in
        absurd (still_closed begins.1 (subst (λ (x : File). IsOpen x.mode) (sym same) reads))
  ]

  opened_by : (decl : Option FileDecl) (x : Option File) → x ≡ Some f
      → Is (file_act l (opened o.output) o.file decl x w).0.files
  opened_by None x e = unopened
  opened_by (Some d) None e = unopened
  opened_by (Some d) (Some y) e =
      let same : f ≡ y = cc in
      subst (λ (z : File). Is (slice_set w.files o.file (opened o.output z).0)) same opened_in_set

  open_one_stand : Is (open_one l o w).0.files
  open_one_stand = opened_by (decl_at l o.file) (slice_get w.files o.file) has

  opened_purpose : (decl : Option FileDecl) (x : Option File) → IsSome decl → x ≡ Some f
      → purposes_of (file_act l (opened o.output) o.file decl x w).0.files
      ≡ slice_set (purposes_of w.files) o.file (purpose_in (opened o.output f).0.mode)
  opened_purpose None x declared e = absurd (false≢true declared)
  opened_purpose (Some d) None declared e = cc
  opened_purpose (Some d) (Some y) declared e =
      let same : f ≡ y = cc in
      purposes_set w.files o.file (opened o.output y).0
      ∙ ap (λ (z : File). slice_set (purposes_of w.files) o.file (purpose_in (opened o.output z).0.mode)) (sym same)

  pub open_one_placed : (d : FileDecl) → decl_at l o.file ≡ Some d → length w.files ≡ length paths
      → purposes_for after ≡ slice_set (purposes_of w.files) o.file (purpose_in (opened o.output f).0.mode)
      → ArePlaced paths new after (open_one l o w).0.files
  open_one_placed d declared as_many purposes =
      let now = opened_purpose (decl_at l o.file) (slice_get w.files o.file)
      (subst (λ (x : Option FileDecl). IsSome x) (sym declared) refl) has in
      record {
        count = count_set w.files (open_one l o w).0.files o.file (purpose_in (opened o.output f).0.mode) now ∙ as_many;
        stand = open_one_stand;
        purposes = purposes ∙ sym now;
      }

-- where a file is closed
pub placed_ends : (paths : List (List ℕ)) (old new : FilesState) (before after : Ids) (fs gs : List File) (place : ℕ)
    → EndsAt fs place gs → ArePlaced paths old before fs → StandAt paths new after fs
    → after ≡ slice_set before place None → ArePlaced paths new after gs
placed_ends paths old new before after fs gs place ends placed stand is = record {
  count = count_set fs gs place None ends.1 ∙ placed.count;
  stand = stand_on paths new after fs gs ends.0 stand;
  purposes = ap purposes_for is ∙ map_set purpose_for before place None
      ∙ ap (λ (ps : List (Option Purpose)). slice_set ps place None) placed.purposes ∙ sym ends.1;
}

-- ---- the part of a node

module _ (s : Setting) (x : Standing) (step : ℕ) (w v : World) (b : Act)
    (its : act_at (program_of s) x.statement.now.number ≡ Some b) (result : Result ℕ RunEnd)
    (does : DoesPart s x step w v result) where
  -- where no file is opened, closed or read
  pub plain_places : IsPlain x.plan_node.now.op b → UnlessRefused result (KeepsPlaces w.files v.files)
  plain_places plain =
      where_done s x step w v (KeepsPlaces w.files v.files) x.plan_node.now.op refl
      (λ a m out does_. where_keeps w v (effect_of (program_of s) x.statement.now.number None w a b)
      (plain_keeps (program_of s) x.statement.now.number w a b (plain_edge x.plan_node.now.op b plain a m out))
      (sym (effect_by_act (program_of s) x.statement.now.number w a b its) ∙ does_))
      (λ kind a m out meets others. same_keeps w.files v.files (ap (λ (u : World). u.files) others)) result does

  -- where a file is opened
  pub open_places : (os : List Opening) (k fine bad : ℕ) → b ≡ open_files os → x.plan_node.now.op ≡ op.Open k fine bad
      → (o : Opening) → slice_get os k ≡ Some o → (paths : List (List ℕ)) (new : FilesState) (after : Ids)
      → ArePlaced paths new after (open_one s.program.now.layout o w).0.files
      → UnlessRefused result (ArePlaced paths new after v.files)
  open_places os k fine bad is op_is o at paths new after placed =
      open_done s x step w v (λ (u : World). ArePlaced paths new after u.files) os k fine bad op_is (its ∙ ap Some is)
      (λ o_ at_. let same : o ≡ o_ = cc in
      subst (λ (y : Opening). ArePlaced paths new after (open_one s.program.now.layout y w).0.files) same placed)
      result does

  -- where a file is read
  module _ (f : ℕ) (into : Option ℕ) (end_ : Phrase) (fine_ : Stmts) (is_read : b ≡ read f into end_ fine_) where
    its_read : act_at (program_of s) x.statement.now.number ≡ Some (read f into end_ fine_)
    its_read = its ∙ ap Some is_read

    abbrev of : Effect → Action → Type 0
    of e a = effect_of (program_of s) x.statement.now.number None w a (read f into end_ fine_) ≡ e

    own : (e : Effect) (a : Action) → effect (program_of s) x.statement.now.number None w a ≡ e → of e a
    own e a does_ = sym (effect_by_act (program_of s) x.statement.now.number w a (read f into end_ fine_) its_read) ∙ does_

    by_edge : (found end_to bad : ℕ) (a : Action) (m : ℕ) → Contains (op_edges (op.Read found end_to bad)) (a, m)
        → effect (program_of s) x.statement.now.number None w a ≡ Ok (Some v)
        → v ≡ (take_one s.program.now.layout None f w).0
    by_edge found end_to bad a m out does_ =
        let h = own (Ok (Some v)) a does_ in
        elim (three _ _ _ _ out) [
          | inl e ↦ sym (taken_test _ _ _ (subst (λ (y : Action × ℕ). of (Ok (Some v)) y.0) (sym e) h)).1
          | inr (inl e) ↦ sym (taken_test _ _ _ (subst (λ (y : Action × ℕ). of (Ok (Some v)) y.0) (sym e) h)).1
          | inr (inr e) ↦ sym (taken_test _ _ _ (subst (λ (y : Action × ℕ). of (Ok (Some v)) y.0) (sym e) h)).1
        ]

    by_edge_sound : (found end_to bad : ℕ) (kind : Kind) (a : Action) (m : ℕ)
        → Contains (op_edges (op.Read found end_to bad)) (a, m)
        → effect (program_of s) x.statement.now.number None w a ≡ Err kind → ⊥
    by_edge_sound found end_to bad kind a m out meets =
        let h = own (Err kind) a meets in
        elim (three _ _ _ _ out) [
          | inl e ↦ never_faults _ _ kind (subst (λ (y : Action × ℕ). of (Err kind) y.0) (sym e) h)
          | inr (inl e) ↦ never_faults _ _ kind (subst (λ (y : Action × ℕ). of (Err kind) y.0) (sym e) h)
          | inr (inr e) ↦ never_faults _ _ kind (subst (λ (y : Action × ℕ). of (Err kind) y.0) (sym e) h)
        ]

    pub read_done : (found end_to bad : ℕ) → x.plan_node.now.op ≡ op.Read found end_to bad
        → UnlessRefused result (v ≡ (take_one s.program.now.layout None f w).0)
    read_done found end_to bad op_is =
        where_done s x step w v (v ≡ (take_one s.program.now.layout None f w).0) (op.Read found end_to bad) op_is
        (by_edge found end_to bad)
        (λ kind a m out meets others. absurd (by_edge_sound found end_to bad kind a m out meets)) result does

-- ---- behind a READ

taken_purpose : (size : ℕ) (content : Option (List ℕ)) (place : ℕ) (r : Option (List ℕ))
    → purpose_in (taken_from size (file content (reading false) place) r).file.mode ≡ Some Reading
taken_purpose size content place None = refl
taken_purpose size content place (Some bytes) = refl

read_purpose : (size : ℕ) (content : Option (List ℕ)) (m : Mode) (place : ℕ)
    → purpose_in (after_read size (file content m place)).file.mode ≡ purpose_in m
read_purpose size content closed place = refl
read_purpose size content (reading true) place = refl
read_purpose size content (reading false) place =
    taken_purpose size content place (record_at size (file content (reading false) place))
read_purpose size content writing place = refl

module _ (s : Setting) (old new : FilesState) (ids : Ids) (live : AreOpen old ids) (w : World)
    (placed : ArePlaced (paths_of s) old ids w.files) (place : ℕ) (f : File) (d : FileDecl)
    (has : slice_get w.files place ≡ Some f) (mode_ : f.mode ≡ reading false)
    (declared : decl_at s.program.now.layout place ≡ Some d) (window : List ℕ)
    (gives : GivesWindow old new ids place d.length window) where
  whole_or_none : (length window ≡ d.length) ⊎ ((window ≡ []) × (0 < d.length))
  whole_or_none = elim gives.whole [
    | inl full ↦ inl full
    | inr none ↦ inr (none.0, none.1)
  ]

  pub read_placed : (mid : World)
      → mid ≡ (take_one s.program.now.layout None place (with_files w (replaced place (Some window) 0 w.files))).0
      → ArePlaced (paths_of s) new ids (settled place f.place mid).files
  read_placed mid is =
      let g = settled_file f.place (after_read d.length (file (Some window) (reading false) 0)).file in
      let at : g.place ≡ f.place + length window =
      ap (λ (n : ℕ). f.place + n) (kept_place d.length window whole_or_none) in
      let still : purpose_in g.mode ≡ purpose_in f.mode =
      read_purpose d.length (Some window) (reading false) 0 ∙ ap purpose_in (sym mode_) in
      subst (λ (fs : List File). ArePlaced (paths_of s) new ids fs)
      (sym (ap (λ (u : World). (settled place f.place u).files) is
      ∙ kept_files s.program.now.layout w place f d has declared window mode_))
      (window_placed old new (paths_of s) ids live w.files placed place d.length f g has mode_ window gives at
      still)

-- a file that isn't read, or whose end was met
idle_kept : (size : ℕ) (content : Option (List ℕ)) (m : Mode) (place : ℕ) → (m ≡ reading false → ⊥)
    → (after_read size (file content m place)).file ≡ file content m place
idle_kept size content closed place idle = refl
idle_kept size content (reading true) place idle = refl
idle_kept size content (reading false) place idle = absurd (idle refl)
idle_kept size content writing place idle = refl

idle_open : (size : ℕ) (content : Option (List ℕ)) (m : Mode) (place : ℕ) → (m ≡ reading false → ⊥)
    → IsOpen (after_read size (file content m place)).file.mode
    → IsOpen m × (place ≡ (after_read size (file content m place)).file.place)
idle_open size content m place idle open_ =
    let e = idle_kept size content m place idle in
    (subst (λ (x : File). IsOpen x.mode) e open_, sym (ap (λ (x : File). x.place) e))

idle_on : (l : Layout) (w : World) (place : ℕ) (decl : Option FileDecl) (o : Option File) → slice_get w.files place ≡ o
    → IsReadOn o None → KeepsPlaces w.files (take_on l None place decl o w).0.files
idle_on l w place None o has idle = places_stay w.files
idle_on l w place (Some d) None has idle = places_stay w.files
idle_on l w place (Some d) (Some f) has idle =
    set_keeps_as w.files place f (after_read d.length f).file has
    (λ open_. idle_open d.length f.content f.mode f.place idle open_) (read_purpose d.length f.content f.mode f.place)

pub idle_placed : (l : Layout) (w v : World) (place : ℕ) → IsReadOn (slice_get w.files place) None
    → v ≡ (take_one l None place w).0 → KeepsPlaces w.files v.files
idle_placed l w v place idle is =
    subst (λ (u : World). KeepsPlaces w.files u.files) (sym is)
    (idle_on l w place (decl_at l place) (slice_get w.files place) refl idle)
