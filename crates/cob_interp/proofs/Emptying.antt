-- Where what waits of a file went out: the run sees what it saw.
use Rattle.std.proofs.Common.{◌≡◌, ℕ, ◌+◌, ◌<◌, Bool, List, [], ◌++◌, Option, Some, None, Result, inl, inr, ◌⊎◌, Ok, Err, refl, sym, ap, subst, ◌∙◌, append-nil, arith}
use Rattle.std.specs.Prelude.{slice_get, slice_set, IfOk, MatchResult}
use Rattle.std.specs.FinMap.{get}
use Rattle.std.proofs.lemmas.Bool.{cases_eq, cases_order}
use Rattle.batch_io.specs.FilesState.{Contents, FilesState, known_bytes}
use Rattle.batch_io.specs.SinkState.{SinkState}
use Rattle.cob_program.specs.Act.{Program}
use Rattle.cob_graph.specs.declared.graph.Graph.{Graph}
use Rattle.cob_graph_laws.specs.Told.{Way}
use Rattle.cob_runs.specs.Files.{File, file, Mode, closed, reading, writing, bytes_in}
use Rattle.cob_runs.specs.State.{World, with_files}
use Rattle.cob_interp.specs.declared.ends.Ended.{Ended}
use Rattle.cob_interp.specs.declared.ends.RunEnd.{RunEnd}
use Rattle.cob_interp.specs.declared.setting.Setting.{Setting}
use Rattle.cob_interp.specs.Ends.{told_files, UnlessRefused}
use Rattle.cob_interp.specs.Told.{seen, seen_file, seen_files, AreSynced, IsSyncedIn, IsSynced, AreDistinct, IsOutIn, IsOut}
use Rattle.cob_interp.specs.Setting.{paths_of}
use Rattle.cob_interp.specs.Tracking.{IsOpen, purpose_in, KeepsPlaces}
use Rattle.cob_interp.specs.Readying.{Keeps, GoesOut, IsRefusal, emptied_in, emptied_file, emptied_on, emptied, AreEmptied, Sees}
use Rattle.cob_interp.specs.Touching.{IsPartOf, IsShort, Loses, Touches, ShutsOnly, ClosesOnly}
use Rattle.cob_interp.specs.Runs.{Outside, outside, IfTold}
use Rattle.cob_interp.specs.Running.{StandsIn, StandsIf, Stands, IsUnderway, RestsIn, Rests}
use Rattle.cob_interp.proofs.SeenFiles.{seen_set, synced_set, seen_in_same, synced_same}
use Rattle.cob_interp.proofs.Waiting.{out_seen}
use Rattle.cob_interp.proofs.OpenLemmas.{seen_file_at, get_set}
use Rattle.cob_interp.proofs.CloseLemmas.{own_synced}
use Rattle.cob_interp.proofs.Touched.{apart_or_same}
use Rattle.cob_interp.proofs.TrackLemmas.{get_set_other}
use Rattle.cob_interp.proofs.Places.{set_keeps_as}
use Rattle.cob_interp.proofs.Purposes.{set_same}
use Rattle.cob_interp.proofs.CallsLead.{others_keep}
use Rattle.cob_interp.proofs.Passing.{stands_behind, readied_well, well_passes}
use Rattle.cob_interp.proofs.Breaking.{told_on}

-- ---- places

emptied_open : (content : Option (List ℕ)) (m : Mode) (place : ℕ) → IsOpen (emptied_in m (file content m place)).mode
    → IsOpen m × (place ≡ (emptied_in m (file content m place)).place)
emptied_open content closed place open_ = absurd open_
emptied_open content (reading ended) place open_ = (tt, refl)
emptied_open content writing place open_ = (tt, refl)

emptied_purpose : (content : Option (List ℕ)) (m : Mode) (place : ℕ)
    → purpose_in (emptied_in m (file content m place)).mode ≡ purpose_in m
emptied_purpose content closed place = refl
emptied_purpose content (reading ended) place = refl
emptied_purpose content writing place = refl

module _ (w : World) (place : ℕ) (f : File) (has : slice_get w.files place ≡ Some f) where
  emptied_files : (emptied place w).files ≡ slice_set w.files place (emptied_file f)
  emptied_files = ap (emptied_on place w.files) has

  pub emptied_keeps : KeepsPlaces w.files (emptied place w).files
  emptied_keeps =
      subst (λ (fs : List File). KeepsPlaces w.files fs) (sym emptied_files)
      (set_keeps_as w.files place f (emptied_file f) has (emptied_open f.content f.mode f.place)
      (emptied_purpose f.content f.mode f.place))

-- ---- what the run sees

module _ (s : Setting) (apart : AreDistinct (paths_of s)) (w : World) (place : ℕ) (old new : FilesState)
    (out : GoesOut s w place old new) where
  files_ : (emptied place w).files ≡ slice_set w.files place (emptied_file out.file)
  files_ = emptied_files w place out.file out.has

  module _ (told : Contents) (known_ : Option Contents)
      (k : Keeps told known_ out.path (λ now. IsOut told now out.path out.file)) where
    each_out : (p : ℕ) (q : List ℕ) (g : File) → slice_get (paths_of s) p ≡ Some q → slice_get w.files p ≡ Some g
        → IsSynced told q g
        → (h : File) × (slice_get (emptied place w).files p ≡ Some h) × IsSynced k.now q h
        × (seen_file k.now q h ≡ seen_file told q g)
    each_out p q g at has synced = elim (apart_or_same (paths_of s) place p out.path q apart out.is.path_ at) [
      | inl here ↦
          let at_here : slice_get (paths_of s) p ≡ Some out.path =
          subst (λ (n : ℕ). slice_get (paths_of s) n ≡ Some out.path) here out.is.path_ in
          let has_here : slice_get w.files p ≡ Some out.file =
          subst (λ (n : ℕ). slice_get w.files n ≡ Some out.file) here out.has in
          let same_path : out.path ≡ q = cc in
          let same_file : out.file ≡ g = cc in
          let own : IsSynced told out.path out.file =
          subst (λ (x : List ℕ). IsSynced told x out.file) (sym same_path)
          (subst (λ (x : File). IsSynced told q x) (sym same_file) synced) in
          let sees = out_seen told k.now out.path out.file k.it own in (
            emptied_file out.file,
            subst (λ (n : ℕ). slice_get (emptied place w).files n ≡ Some (emptied_file out.file)) here
                (ap (λ (fs : List File). slice_get fs place) files_
                ∙ get_set w.files place out.file (emptied_file out.file) out.has),
            subst (λ (x : List ℕ). IsSynced k.now x (emptied_file out.file)) same_path sees.1,
            subst (λ (x : List ℕ). seen_file k.now x (emptied_file out.file) ≡ seen_file told x g) same_path
                (sees.0 ∙ ap (seen_file told out.path) same_file),
          )
      | inr differ ↦
          let apart_ : (p ≡ place) → ⊥ =
          λ same. let there : slice_get (paths_of s) place ≡ Some q =
          subst (λ (n : ℕ). slice_get (paths_of s) n ≡ Some q) same at in
          let is = out.is.path_ in
          let e_ : q ≡ out.path = cc in differ e_ in (
            g,
            ap (λ (fs : List File). slice_get fs p) files_
                ∙ get_set_other w.files place p (emptied_file out.file) apart_ ∙ has,
            synced_same told k.now q (k.others q differ) g.mode g.content g.place synced,
            seen_in_same told k.now q (k.others q differ) g.mode g,
          )
    ]

  pub sees_out : Sees (paths_of s) old new w (emptied place w)
  sees_out = record {
    well = out.ready.well;
    world = refl;
    known = λ told e.
        let k = out.ready.known told e in
        record {
          now = k.now;
          is = k.is;
          same = λ synced.
              let own = own_synced told (paths_of s) w.files place out.path out.file synced out.is.path_ out.has in
              let sees = out_seen told k.now out.path out.file k.it own in (
                ap (seen_files k.now (paths_of s)) files_
                    ∙ seen_set told k.now out.path k.others (emptied_file out.file) (paths_of s) w.files place apart synced
                    out.is.path_
                    ∙ ap (slice_set (seen_files told (paths_of s) w.files) place) sees.0
                    ∙ set_same (seen_files told (paths_of s) w.files) place (seen_file told out.path out.file)
                    (seen_file_at told (paths_of s) w.files place out.path out.file synced out.is.path_ out.has),
                subst (λ (fs : List File). AreSynced k.now (paths_of s) fs) (sym files_)
                    (synced_set told k.now out.path k.others (emptied_file out.file) (paths_of s) w.files place apart synced
                    out.is.path_ sees.1),
              );
          each = each_out told (known_bytes new) k;
          others = others_keep told told k.now (paths_of s) place out.path out.is.path_ k.others (λ name none. refl);
        };
  }

  -- a file of which nothing waits
  again_in : (now : Contents) (content : Option (List ℕ)) (m : Mode) (at : ℕ)
      → IsOutIn now now out.path (emptied_in m (file content m at)).mode (emptied_in m (file content m at))
  again_in now content closed at = refl
  again_in now content (reading ended) at = refl
  again_in now content writing at = λ bytes is. is ∙ ap (λ (x : List ℕ). Some x) (sym (append-nil bytes))

  -- what waited went out already
  pub out_again : GoesOut s (emptied place w) place new new
  out_again = record {
    path = out.path;
    file = emptied_file out.file;
    is = out.is;
    has = ap (λ (fs : List File). slice_get fs place) files_
        ∙ get_set w.files place out.file (emptied_file out.file) out.has;
    ready = record {
      well = record { reading = refl; writing = refl };
      known = λ told e. record {
        now = told;
        is = e;
        others = λ name differ. refl;
        it = again_in told out.file.content out.file.mode out.file.place;
      };
    };
  }

-- ---- closes

pub sees_closes : (paths : List (List ℕ)) (a b : FilesState) (w v : World) → Sees paths a b w v → ClosesOnly paths a b w v
sees_closes paths a b w v sees = record {
  known = λ told e.
      let k = sees.known told e in
      record {
        now = k.now;
        is = k.is;
        each = λ place path f at has s.
            let g = k.each place path f at has s in
            (g.0, g.1, g.2, inl g.3);
      };
}

closed_synced : (told : Contents) (path : List ℕ) (f : File) → f.mode ≡ closed → IsSynced told path f
closed_synced told path f e = subst (λ (m : Mode). IsSyncedIn told m path f.content f.place) (sym e) tt

pub closes_shut : (paths : List (List ℕ)) (a : FilesState) (w v : World) → ShutsOnly w v → ClosesOnly paths a a w v
closes_shut paths a w v shuts = record {
  known = λ told e. record {
    now = told;
    is = e;
    each = λ place path f at has s.
        let g = shuts.each place f has in
        elim g.2 [
          | inl same ↦ (
            g.0,
            g.1,
            subst (λ (x : File). IsSynced told path x) (sym same) s,
            inl (ap (seen_file told path) same),
          )
          | inr shut ↦ (g.0, g.1, closed_synced told path g.0 shut, inr shut)
        ];
  };
}

seen_mode : (told : Contents) (path : List ℕ) (content : Option (List ℕ)) (m : Mode) (place : ℕ)
    → (seen_file told path (file content m place)).mode ≡ m
seen_mode told path content closed place = refl
seen_mode told path content (reading ended) place = refl
seen_mode told path content writing place = refl

closed_on : (told mid now : Contents) (path : List ℕ) (f g h : File)
    → (seen_file mid path g ≡ seen_file told path f) ⊎ (g.mode ≡ closed)
    → (seen_file now path h ≡ seen_file mid path g) ⊎ (h.mode ≡ closed)
    → (seen_file now path h ≡ seen_file told path f) ⊎ (h.mode ≡ closed)
closed_on told mid now path f g h how (inr shut) = inr shut
closed_on told mid now path f g h (inl same) (inl same_) = inl (same_ ∙ same)
closed_on told mid now path f g h (inr shut) (inl same_) =
    inr (sym (seen_mode now path h.content h.mode h.place) ∙ ap (λ (x : File). x.mode) same_
    ∙ seen_mode mid path g.content g.mode g.place ∙ shut)

pub closes_pass : (paths : List (List ℕ)) (a b c : FilesState) (w v u : World) → ClosesOnly paths a b w v
    → ClosesOnly paths b c v u → ClosesOnly paths a c w u
closes_pass paths a b c w v u first then_ = record {
  known = λ told e.
      let h = first.known told e in
      let k = then_.known h.now h.is in
      record {
        now = k.now;
        is = k.is;
        each = λ place path f at has s.
            let g = h.each place path f at has s in
            let x = k.each place path g.0 at g.1 g.2 in
            (x.0, x.1, x.2, closed_on told h.now k.now path f g.0 x.0 g.3 x.3);
      };
}

-- behind the CLOSE of a file of which nothing waits
pub closes_behind : (s : Setting) (apart : AreDistinct (paths_of s)) (w : World) (place : ℕ) (old new : FilesState)
    → GoesOut s w place old new → (v : World) (result : Result ℕ RunEnd)
    → UnlessRefused result (ShutsOnly (emptied place w) v)
    → IfOk result (λ _. ClosesOnly (paths_of s) old new w v)
closes_behind s apart w place old new out v (Ok to) shuts =
    closes_pass (paths_of s) old new new w (emptied place w) v
    (sees_closes (paths_of s) old new w (emptied place w) (sees_out s apart w place old new out))
    (closes_shut (paths_of s) new (emptied place w) v shuts)
closes_behind s apart w place old new out v (Err e) shuts = tt

-- ---- the run goes on standing

seen_on : (told now : Contents) (paths : List (List ℕ)) (text : List ℕ) (w v : World) → v ≡ with_files w v.files
    → seen_files now paths v.files ≡ seen_files told paths w.files → seen told paths text w ≡ seen now paths text v
seen_on told now paths text w v is same =
    sym (ap (λ (fs : List File). record {
      storage = w.storage;
      counts = w.counts;
      files = fs;
      shown = text ++ w.shown;
    }) same)
    ∙ sym (ap (λ (u : World). record {
      storage = u.storage;
      counts = u.counts;
      files = seen_files now paths v.files;
      shown = text ++ u.shown;
    }) is)

module _ (p : Program) (g : Graph) (paths : List (List ℕ)) (start : Outside) (sink : SinkState) (old new : FilesState)
    (w v : World) (sees : Sees paths old new w v) where
  pub stands_sees : (left begun node : ℕ) → Stands p g paths start (outside old sink) w left begun node
      → Stands p g paths start (outside new sink) v left begun node
  stands_sees left begun node s =
      stands_behind p g paths start (outside old sink) (outside new sink) w v [] left begun node left begun node
      (readied_well old new sink sees.well)
      (λ first told text e st. let k = sees.known told e in
      let same = k.same st.synced in
      subst (λ (c : Option Contents). StandsIf p g paths (Some first) c (text ++ []) v left begun node) (sym k.is)
      (subst (λ (t : List ℕ). StandsIn p g paths first k.now t v left begun node) (sym (append-nil text))
      (record {
        tells = st.tells;
        way = subst (λ (z : World). Way p g (told_files first paths) [] left node z)
            (seen_on told k.now paths text w v sees.world same.0) st.way;
        synced = same.1;
        others = λ name none. k.others name none ∙ st.others name none;
        free = st.free;
      })))
      s

  -- behind the run's own end
  pub rests_sees : (budget : ℕ) (r : Result Ended RunEnd) → Rests p g paths budget start (outside old sink) w r
      → Rests p g paths budget start (outside new sink) v r
  rests_sees budget r s = record {
    text = s.text ++ [];
    well = well_passes start (outside old sink) (outside new sink) s.text [] s.well (readied_well old new sink sees.well);
    told = told_on (λ first told. RestsIn p g paths budget first told s.text w r)
        (λ first told. RestsIn p g paths budget first told (s.text ++ []) v r)
        (known_bytes start.files) (known_bytes old) (known_bytes new) s.told
        (λ first told e st. let k = sees.known told e in
        let same = k.same st.synced in
        subst (λ (c : Option Contents). IfTold
        (λ f n. RestsIn p g paths budget f n (s.text ++ []) v r) (Some first) c) (sym k.is)
        (record {
          steps = st.steps;
          answer = st.answer;
          files = st.files ∙ sym same.0;
          shown = st.shown ∙ ap (λ (t : List ℕ). t ++ w.shown) (sym (append-nil s.text))
              ∙ sym (ap (λ (u : World). (s.text ++ []) ++ u.shown) sees.world);
          synced = same.1;
          others = λ name none. k.others name none ∙ st.others name none;
        }));
  }

-- ---- what was seen goes on being seen

pub sees_stay : (paths : List (List ℕ)) (a : FilesState) (w : World) → Sees paths a a w w
sees_stay paths a w = record {
  well = record { reading = refl; writing = refl };
  world = refl;
  known = λ told e. record {
    now = told;
    is = e;
    same = λ synced. (refl, synced);
    each = λ place path f at has synced. (f, has, synced, refl);
    others = λ name none. refl;
  };
}

pub sees_pass : (paths : List (List ℕ)) (a b c : FilesState) (w v u : World) → Sees paths a b w v → Sees paths b c v u
    → Sees paths a c w u
sees_pass paths a b c w v u h k = record {
  well = record { reading = k.well.reading ∙ h.well.reading; writing = k.well.writing ∙ h.well.writing };
  world = k.world ∙ ap (λ (x : World). with_files x u.files) h.world;
  known = λ told e.
      let x = h.known told e in
      let y = k.known x.now x.is in
      record {
        now = y.now;
        is = y.is;
        same = λ synced.
            let first = x.same synced in
            let then_ = y.same first.1 in
            (then_.0 ∙ first.0, then_.1);
        each = λ place path f at has synced.
            let g = x.each place path f at has synced in
            let i = y.each place path g.0 at g.1 g.2 in
            (i.0, i.1, i.2, i.3 ∙ g.3);
        others = λ name none. y.others name none ∙ x.others name none;
      };
}

-- a step that is underway goes on so
pub underway_sees : (p : Program) (g : Graph) (paths : List (List ℕ)) (start : Outside) (sink : SinkState)
    (old new : FilesState) (w v : World) → Sees paths old new w v → (step node : ℕ)
    → IsUnderway p g paths start (outside old sink) w step node
    → IsUnderway p g paths start (outside new sink) v step node
underway_sees p g paths start sink old new w v sees step node u = record {
  left = u.left;
  stands = stands_sees p g paths start sink old new w v sees u.left step node u.stands;
  counts = u.counts;
}

-- what is left then is what a later call leaves
pub touches_sees : (paths : List (List ℕ)) (makes : ℕ → Bool) (a b c : FilesState) (w v : World) → Sees paths a b w v
    → Touches paths makes v b c → Touches paths makes w a c
touches_sees paths makes a b c w v sees touches = record {
  known = λ told e.
      let h = sees.known told e in
      let k = touches.known h.now h.is in
      record {
        now = k.now;
        is = k.is;
        touches = record {
          its = λ place path f at has s.
              let g = h.each place path f at has s in
              subst (λ (x : File). IsPartOf (makes place) x x.content (get k.now path)) g.3
              (k.touches.its place path g.0 at g.1 g.2);
          others = λ name none. k.touches.others name none ∙ h.others name none;
        };
      };
}

pub loses_sees : (paths : List (List ℕ)) (a b c : FilesState) (w v : World) → Sees paths a b w v → Loses paths v b c
    → Loses paths w a c
loses_sees paths a b c w v sees loses = record {
  known = λ told e.
      let h = sees.known told e in
      let k = loses.known h.now h.is in
      record {
        now = k.now;
        is = k.is;
        place = k.place;
        path = k.path;
        at = k.at;
        it = λ f has s.
            let g = h.each k.place k.path f k.at has s in
            subst (λ (x : File). IsShort x (get k.now k.path)) g.3 (k.it g.0 g.1 g.2);
      };
}

-- ---- what waits of a file goes out, or that is refused

module _ (s : Setting) (w v : World) (place : ℕ) (old new : FilesState) (result : Result (Unit {0}) RunEnd)
    (goes : MatchResult result (λ _. GoesOut s w place old new) (λ e. IsRefusal old new e))
    (is : IfOk result (λ _. v ≡ emptied place w)) where
  abbrev Goes : Result (Unit {0}) RunEnd → Type 0
  Goes r = MatchResult r (λ _. GoesOut s w place old new) (λ e. IsRefusal old new e)

  abbrev Empties : Result (Unit {0}) RunEnd → Type 0
  Empties r = IfOk r (λ _. v ≡ emptied place w)

  pub sees_behind : AreDistinct (paths_of s)
      → MatchResult result (λ _. Sees (paths_of s) old new w v) (λ e. IsRefusal old new e)
  sees_behind apart = by result goes is where
    by : (r : Result (Unit {0}) RunEnd) → Goes r → Empties r
        → MatchResult r (λ _. Sees (paths_of s) old new w v) (λ e. IsRefusal old new e)
    by (Ok u) out e = subst (λ (x : World). Sees (paths_of s) old new w x) (sym e) (sees_out s apart w place old new out)
    by (Err e) refusal e_ = refusal

  pub keeps_behind : IfOk result (λ _. KeepsPlaces w.files v.files)
  keeps_behind = by result goes is where
    by : (r : Result (Unit {0}) RunEnd) → Goes r → Empties r → IfOk r (λ _. KeepsPlaces w.files v.files)
    by (Ok u) out e = subst (λ (x : World). KeepsPlaces w.files x.files) (sym e) (emptied_keeps w place out.file out.has)
    by (Err e) refusal e_ = tt

-- ---- files of which nothing waits

emptied_bytes : (content : Option (List ℕ)) (m : Mode) (at : ℕ) → (emptied_in m (file content m at)).mode ≡ writing
    → bytes_in (emptied_in m (file content m at)) ≡ []
emptied_bytes content closed at e = cc
emptied_bytes content (reading ended) at e = cc
emptied_bytes content writing at e = refl

below_next : (place count : ℕ) → place < count + 1 → (place ≡ count → ⊥) → place < count
below_next place count below apart = elim (cases_order place count) [
  | inl same ↦ absurd (apart same)
  | inr (inl less) ↦ less
  | inr (inr more) ↦ absurd (omega (arith, below, more))
]

-- Nothing waits of the file whose bytes went out.
emptied_on_here : (fs : List File) (place : ℕ) (o : Option File) → slice_get fs place ≡ o → (f : File)
    → slice_get (emptied_on place fs o) place ≡ Some f → f.mode ≡ writing → bytes_in f ≡ []
emptied_on_here fs place None none f has mode_ = cc
emptied_on_here fs place (Some g) is f has mode_ =
    let set = get_set fs place g (emptied_file g) is in
    let same : emptied_file g ≡ f = cc in
    subst (λ (x : File). bytes_in x ≡ []) same
    (emptied_bytes g.content g.mode g.place (ap (λ (x : File). x.mode) same ∙ mode_))

pub emptied_here : (w : World) (place : ℕ) (f : File) → slice_get (emptied place w).files place ≡ Some f
    → f.mode ≡ writing → bytes_in f ≡ []
emptied_here w place f = emptied_on_here w.files place (slice_get w.files place) refl f

emptied_on_next : (fs : List File) (count : ℕ) (o : Option File) → slice_get fs count ≡ o → AreEmptied fs count
    → AreEmptied (emptied_on count fs o) (count + 1)
emptied_on_next fs count None none all place f below has mode_ = elim (cases_eq place count) [
  | inl here ↦
      let at : slice_get fs count ≡ Some f = subst (λ (n : ℕ). slice_get fs n ≡ Some f) here has in
      cc
  | inr apart ↦ all place f (below_next place count below apart) has mode_
]
emptied_on_next fs count (Some g) is all place f below has mode_ = elim (cases_eq place count) [
  | inl here ↦
      emptied_on_here fs count (Some g) is f
      (subst (λ (n : ℕ). slice_get (slice_set fs count (emptied_file g)) n ≡ Some f) here has) mode_
  | inr apart ↦
      all place f (below_next place count below apart)
      (sym (get_set_other fs count place (emptied_file g) apart) ∙ has) mode_
]

pub emptied_next : (w : World) (count : ℕ) → AreEmptied w.files count → AreEmptied (emptied count w).files (count + 1)
emptied_next w count all = emptied_on_next w.files count (slice_get w.files count) refl all

pub emptied_none : (fs : List File) → AreEmptied fs 0
emptied_none fs place f below has mode_ = absurd (omega (arith, below))
