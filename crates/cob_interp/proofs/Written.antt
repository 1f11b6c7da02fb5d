-- Files that are written have ids that stand for their paths, wherever the run ends.
use Rattle.std.proofs.Common.{◌≡◌, ◌≢◌, ℕ, Bool, true, false, List, Option, Some, Result, Ok, Err, inl, inr, refl, sym, ap, subst, ◌∙◌}
use Rattle.std.specs.Prelude.{slice_get, IsSome, IfSome}
use Rattle.std.proofs.lemmas.Bool.{false≢true}
use Rattle.batch_io.specs.declared.ends.MakeEnd.{MakeEnd}
use Rattle.batch_io.specs.declared.ends.MakeEnd.TheVariants as make
use Rattle.batch_io.specs.FilesState.{FilesState, Handle, Purpose, Writing, Gives, KeepsIds, known_handle}
use Rattle.batch_io.specs.SinkState.{SinkState}
use Rattle.cob_program.specs.Act.{Act}
use Rattle.cob_runs.specs.Files.{File, Mode, closed, reading, writing}
use Rattle.cob_runs.specs.State.{World}
use Rattle.cob_interp.specs.declared.ends.Ended.{Ended}
use Rattle.cob_interp.specs.declared.ends.RunEnd.{RunEnd}
use Rattle.cob_interp.specs.declared.ends.RunEnd.TheVariants as end
use Rattle.cob_interp.specs.declared.handles.Held.{Held}
use Rattle.cob_interp.specs.declared.walk.Halt.{Halt}
use Rattle.cob_interp.specs.declared.walk.Halt.TheVariants as halt
use Rattle.cob_interp.specs.Ends.{IfOwn, UnlessRefused}
use Rattle.cob_interp.specs.Meeting.{is_failure, ShowsRest}
use Rattle.cob_interp.specs.Readying.{IsRefusal}
use Rattle.cob_interp.specs.Tracking.{Ids, IsHeld, AreOpen, IsOpen, purpose_in, ArePlaced, AreWritten, AreLeft, KeepsPlaces}
use Rattle.cob_interp.specs.Walking.{by_sink, as_result, is_refused}
use Rattle.cob_interp.proofs.Purposes.{count_kept, purpose_at, slot_held}
use Rattle.cob_interp.proofs.TrackLemmas.{same_slot, placed_on, places_pass}

pub written_placed : (paths : List (List ℕ)) (a : FilesState) (ids : Ids) (fs : List File) → ArePlaced paths a ids fs
    → AreWritten paths a ids fs
written_placed paths a ids fs placed = record {
  count = placed.count;
  held = λ place f has mode_. slot_held ids fs placed.purposes place f has true (ap purpose_in mode_);
  stand = λ place id writes path f is at has mode_. placed.stand place id writes path f is at has
      (subst IsOpen (sym mode_) tt);
}

-- ---- where files keep their places

is_writing : (m : Mode) → purpose_in m ≡ Some Writing → m ≡ writing
is_writing closed e = cc
is_writing (reading ended) e = cc
is_writing writing e = refl

some_is : (x y : Option Purpose) → Some x ≡ Some y → x ≡ y
some_is x y e = cc

was_written : (fs gs : List File) → KeepsPlaces fs gs → (place : ℕ) (g : File) → slice_get gs place ≡ Some g
    → g.mode ≡ writing → (f : File) × (slice_get fs place ≡ Some f) × (f.mode ≡ writing) × (f.place ≡ g.place)
was_written fs gs keeps place g has mode_ =
    let f = keeps.each place g has (subst IsOpen (sym mode_) tt) in
    let same : Some (purpose_in f.0.mode) ≡ Some (purpose_in g.mode) =
    sym (purpose_at fs place f.0 f.1)
    ∙ sym (ap (λ (ps : List (Option Purpose)). slice_get ps place) keeps.purposes)
    ∙ purpose_at gs place g has in
    (f.0, f.1, is_writing f.0.mode (some_is _ _ same ∙ ap purpose_in mode_), f.3)

pub written_on : (paths : List (List ℕ)) (a : FilesState) (ids : Ids) (fs gs : List File) → KeepsPlaces fs gs
    → AreWritten paths a ids fs → AreWritten paths a ids gs
written_on paths a ids fs gs keeps written = record {
  count = count_kept fs gs keeps.purposes ∙ written.count;
  held = λ place g has mode_.
      let f = was_written fs gs keeps place g has mode_ in written.held place f.0 f.1 f.2;
  stand = λ place id writes path g is at has mode_.
      let f = was_written fs gs keeps place g has mode_ in
      subst (λ (n : ℕ). IfSome (known_handle a id) (λ handle. handle ≡ record { name = path; place = n })) f.3
      (written.stand place id writes path f.0 is at f.1 f.2);
}

-- ---- where ids stand

module _ (paths : List (List ℕ)) (a b : FilesState) (ids : Ids) (live : AreOpen a ids) (fs : List File)
    (written : AreWritten paths a ids fs) where
  is_live : (place id : ℕ) (writes : Bool) → IsHeld ids place writes id → IsSome (a.purpose id)
  is_live place id writes is =
      subst (λ (o : Option Purpose). IsSome o) (sym (live.purpose place id writes is)) refl

  -- where they keep all that they stand for
  pub written_ids : KeepsIds a b → AreWritten paths b ids fs
  written_ids keeps = record {
    count = written.count;
    held = written.held;
    stand = λ place id writes path f is at has mode_.
        subst (λ (o : Option Handle). IfSome o (λ handle. handle ≡ record { name = path; place = f.place }))
        (sym (keeps.handle id (is_live place id writes is)))
        (written.stand place id writes path f is at has mode_);
  }

  -- where one of them is read
  module _ (place id : ℕ) (is_read : IsHeld ids place false id) where
    differs : (p i j : ℕ) (u : Bool) → IsHeld ids p u i → IsHeld ids p true j → i ≢ id
    differs p i j u is at_j e =
        let here : p ≡ place = live.apart p place i u false is (subst (λ (n : ℕ). IsHeld ids place false n) (sym e) is_read) in
        let own : IsHeld ids place true j = subst (λ (n : ℕ). IsHeld ids n true j) here at_j in
        let same : false ≡ true = ap (λ (x : Held). x.writes)
        (same_slot (record { id = id; writes = false }) (record { id = j; writes = true }) (sym is_read ∙ own)) in
        false≢true same

    pub written_given : (bytes : List ℕ) → Gives a b id bytes → AreWritten paths b ids fs
    written_given bytes given = record {
      count = written.count;
      held = written.held;
      stand = λ p i u path f is at has mode_.
          let own = written.held p f has mode_ in
          subst (λ (o : Option Handle). IfSome o (λ handle. handle ≡ record { name = path; place = f.place }))
          (sym (given.others i (differs p i own.0 u is own.1) (is_live p i u is)))
          (written.stand p i u path f is at has mode_);
    }

-- ---- ends that are the run's own

pub own_weaker : (e : RunEnd) (P Q : Type 0) → (P → Q) → IfOwn e P → IfOwn e Q
own_weaker end.ReadFault P Q f x = tt
own_weaker end.WriteFault P Q f x = tt
own_weaker end.Memory P Q f x = tt
own_weaker (end.Ragged file count) P Q f x = f x
own_weaker (end.StepsSpent count) P Q f x = f x
own_weaker (end.IoStop status statement) P Q f x = f x
own_weaker (end.Fault kind statement step) P Q f x = f x

pub own_any : (e : RunEnd) (P : Type 0) → P → IfOwn e P
own_any end.ReadFault P x = tt
own_any end.WriteFault P x = tt
own_any end.Memory P x = tt
own_any (end.Ragged file count) P x = x
own_any (end.StepsSpent count) P x = x
own_any (end.IoStop status statement) P x = x
own_any (end.Fault kind statement step) P x = x

-- a refusal isn't
pub refused_own : (old new : FilesState) (P : Type 0) (e : RunEnd) → IsRefusal old new e → IfOwn e P
refused_own old new P end.ReadFault refused = tt
refused_own old new P end.WriteFault refused = tt
refused_own old new P end.Memory refused = tt
refused_own old new P (end.Ragged file count) refused = absurd refused
refused_own old new P (end.StepsSpent count) refused = absurd refused
refused_own old new P (end.IoStop status statement) refused = absurd refused
refused_own old new P (end.Fault kind statement step) refused = absurd refused

pub sink_own : (P : Type 0) (e : MakeEnd) → IfOwn (by_sink e) P
sink_own P make.Failed = tt
sink_own P make.Memory = tt

pub own_is : (P : Type 0) (e : RunEnd) → is_refused e ≡ false → IfOwn e P → P
own_is P end.ReadFault own x = cc
own_is P end.WriteFault own x = cc
own_is P end.Memory own x = cc
own_is P (end.Ragged file count) own x = x
own_is P (end.StepsSpent count) own x = x
own_is P (end.IoStop status statement) own x = x
own_is P (end.Fault kind statement step) own x = x

pub unless_weaker : {A : Type 0} (result : Result A RunEnd) (P Q : Type 0) → (P → Q) → UnlessRefused result P
    → UnlessRefused result Q
unless_weaker (Ok x) P Q f p = f p
unless_weaker (Err e) P Q f p = own_weaker e P Q f p

-- ---- what is left

pub left_by : {A : Type 0} (result : Result A RunEnd) (paths : List (List ℕ)) (a : FilesState) (ids : Ids)
    (fs : List File) → UnlessRefused result (ArePlaced paths a ids fs) → AreLeft paths a ids fs result
left_by (Ok x) paths a ids fs placed = placed
left_by (Err e) paths a ids fs placed =
    own_weaker e (ArePlaced paths a ids fs) (AreWritten paths a ids fs) (written_placed paths a ids fs) placed

pub left_behind : {A : Type 0} (result : Result A RunEnd) (paths : List (List ℕ)) (a : FilesState) (ids : Ids)
    (fs gs : List File) → UnlessRefused result (KeepsPlaces fs gs) → ArePlaced paths a ids fs
    → AreLeft paths a ids gs result
left_behind result paths a ids fs gs keeps placed =
    left_by result paths a ids gs
    (unless_weaker result (KeepsPlaces fs gs) (ArePlaced paths a ids gs)
    (λ k. placed_on paths a ids fs gs k placed) keeps)

pub places_behind : {A : Type 0} (result : Result A RunEnd) (fs gs hs : List File) → KeepsPlaces fs gs
    → UnlessRefused result (KeepsPlaces gs hs) → UnlessRefused result (KeepsPlaces fs hs)
places_behind result fs gs hs first then_ =
    unless_weaker result (KeepsPlaces gs hs) (KeepsPlaces fs hs) (λ k. places_pass fs gs hs first k) then_

-- behind a step, and behind the run
pub left_on : (paths : List (List ℕ)) (a : FilesState) (ids : Ids) (fs : List File) (e : Halt)
    → AreLeft paths a ids fs (as_result {A = ℕ} (Err e)) → AreLeft paths a ids fs (as_result {A = Ended} (Err e))
left_on paths a ids fs (halt.End e) left = left
left_on paths a ids fs (halt.Sink e) left = left

own_failed : (e : RunEnd) (P : Type 0) → is_failure e ≡ true → IfOwn e P
own_failed end.ReadFault P fails = tt
own_failed end.WriteFault P fails = tt
own_failed end.Memory P fails = tt
own_failed (end.Ragged file count) P fails = cc
own_failed (end.StepsSpent count) P fails = cc
own_failed (end.IoStop status statement) P fails = cc
own_failed (end.Fault kind statement step) P fails = cc

-- behind a step that was refused
pub rest_placed : (act : Act) (mid now : SinkState) (u v : World) (e : RunEnd) (h : Halt) (paths : List (List ℕ))
    (a : FilesState) (ids : Ids) → ShowsRest act mid now u v e h → IfOwn e (AreWritten paths a ids u.files)
    → AreLeft paths a ids v.files (as_result {A = ℕ} (Err h))
rest_placed act mid now u v e (halt.End d) paths a ids (is, inl (sink, world, why)) left =
    subst (λ (f : RunEnd). IfOwn f (AreWritten paths a ids v.files)) (sym is)
    (subst (λ (z : World). IfOwn e (AreWritten paths a ids z.files)) (sym world) left)
rest_placed act mid now u v e (halt.End d) paths a ids (is, inr (flushes, waits, fails)) left =
    subst (λ (f : RunEnd). IfOwn f (AreWritten paths a ids v.files)) (sym is)
    (own_failed e (AreWritten paths a ids v.files) fails)
rest_placed act mid now u v e (halt.Sink why) paths a ids rest left = sink_own (AreWritten paths a ids v.files) why

-- behind a run that came to its own end
pub left_own : (paths : List (List ℕ)) (a : FilesState) (ids : Ids) (fs : List File) (h : Result Ended Halt) (e : RunEnd)
    → h ≡ Err (halt.End e) → is_refused e ≡ false → AreLeft paths a ids fs (as_result h) → AreWritten paths a ids fs
left_own paths a ids fs h e is own left =
    own_is (AreWritten paths a ids fs) e own
    (subst (λ (x : Result Ended Halt). AreLeft paths a ids fs (as_result x)) is left)
