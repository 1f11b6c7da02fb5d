-- What comes of the outside's files where a file is to be opened.
use Rattle.std.proofs.Common.{◌≡◌, ℕ, zero, suc, ◌<◌, Bool, true, false, List, [], ◌∷◌, ◌++◌, length, Option, Some, None, inl, inr, refl, sym, ap, subst, ◌∙◌}
use Rattle.std.specs.Prelude.{slice_get, slice_set, is_some, IsSome, IfSome}
use Rattle.std.specs.Option.{option_map}
use Rattle.batch_io.specs.FilesState.{Contents, FilesState, Purpose, Reading, Writing, known_bytes, known_handle}
use Rattle.cob_program.specs.declared.act.Opening.{Opening}
use Rattle.cob_runs.specs.Files.{File, file, Mode, closed, reading, writing, opened, opened_in}
use Rattle.cob_runs.specs.State.{World, with_files}
use Rattle.cob_world.specs.declared.files.FileMode.{FileMode}
use Rattle.cob_world.specs.declared.files.FileMode.TheVariants as mode
use Rattle.cob_world.specs.Views.{plain_mode}
use Rattle.cob_world.specs.Calling.{refilled, refilled_on}
use Rattle.cob_interp.specs.declared.setting.Setting.{Setting}
use Rattle.cob_interp.specs.Told.{seen, seen_file, seen_files, IsSyncedIn, AreSynced, IsReadyToOpenIn}
use Rattle.cob_interp.specs.Ends.{is_closed}
use Rattle.cob_interp.specs.Setting.{paths_of}
use Rattle.cob_interp.specs.Readying.{IsPath, IsOpenedAt, KeepsHandles, CreatesFor, OpensInto, StandsOrBegins, ReadyToOpen}
use Rattle.cob_interp.specs.declared.handles.Held.{Held}
use Rattle.cob_interp.specs.Tracking.{Ids, IsHeld, AreOpen, IsOpen, StayAt, purpose_in, purposes_of, purpose_for, purposes_for}
use Rattle.cob_interp.proofs.TrackLemmas.{held_in_set, same_held, places_stay}
use Rattle.cob_interp.proofs.Places.{set_stays}
use Rattle.cob_interp.proofs.Purposes.{map_set, set_same, purpose_at, purposes_kept}
use Rattle.cob_interp.proofs.SeenFiles.{SeenAt, seen_at}

-- the file whose mode was asked
pub has_file : (m : FileMode) (o : Option File) → option_map plain_mode (Some m) ≡ option_map (λ f. f.mode) o
    → (f : File) × (o ≡ Some f) × (f.mode ≡ plain_mode m)
has_file m None e = cc
has_file m (Some f) e = (f, refl, cc)

pub seen_file_at : (told : Contents) (paths : List (List ℕ)) (fs : List File) (place : ℕ) (path : List ℕ) (f : File)
    → AreSynced told paths fs → slice_get paths place ≡ Some path → slice_get fs place ≡ Some f
    → slice_get (seen_files told paths fs) place ≡ Some (seen_file told path f)
seen_file_at told paths fs place path f s at has =
    let sees : SeenAt told paths place (Some f) (slice_get (seen_files told paths fs) place) =
    subst (λ (o : Option File). SeenAt told paths place o (slice_get (seen_files told paths fs) place)) has
    (seen_at told paths fs place s) in
    let same : sees.0 ≡ path = cc in
    sees.2 ∙ ap (λ (x : List ℕ). Some (seen_file told x f)) same

-- ---- a closed file with other bytes is seen as before

module _ (told : Contents) (f : File) (is_closed_ : f.mode ≡ closed) (content : Option (List ℕ)) where
  seen_closed : (path : List ℕ) → seen_file told path (file content f.mode f.place) ≡ seen_file told path f
  seen_closed path = rw is_closed_ refl

  synced_closed : (path : List ℕ) → IsSyncedIn told f.mode path content f.place
  synced_closed path = rw is_closed_ tt

  refilled_seen : (paths : List (List ℕ)) (fs : List File) (place : ℕ) → AreSynced told paths fs
      → slice_get fs place ≡ Some f
      → (seen_files told paths (slice_set fs place (file content f.mode f.place)) ≡ seen_files told paths fs)
      × AreSynced told paths (slice_set fs place (file content f.mode f.place))
  refilled_seen paths [] place s has = cc
  refilled_seen [] (x ∷ fs) place s has = absurd s
  refilled_seen (path ∷ paths) (x ∷ fs) zero s has =
      let same : x ≡ f = cc in
      let e = seen_closed path in
      let e_ : seen_file told path x ≡ seen_file told path f = ap (seen_file told path) same in
      (cc, (synced_closed path, s.1))
  refilled_seen (path ∷ paths) (x ∷ fs) (suc place) s has =
      let r = refilled_seen paths fs place s.1 has in
      (ap (λ (gs : List File). seen_file told path x ∷ gs) r.0, (s.0, r.1))

pub get_set : (fs : List File) (place : ℕ) (f g : File) → slice_get fs place ≡ Some f
    → slice_get (slice_set fs place g) place ≡ Some g
get_set [] place f g has = cc
get_set (x ∷ fs) zero f g has = refl
get_set (x ∷ fs) (suc place) f g has = get_set fs place f g has

refilled_is : (fs : List File) (place : ℕ) (f : File) (content : Option (List ℕ)) → slice_get fs place ≡ Some f
    → refilled place content fs ≡ slice_set fs place (file content f.mode f.place)
refilled_is fs place f content has = ap (refilled_on place content fs) has

-- ---- what an OPEN lets be read

open_reads : (output : Bool) (f : File) → (f.mode ≡ closed → ⊥) → IsOpen (opened output f).0.mode → IsOpen f.mode
open_reads output f open_ reads = by f.mode refl open_ reads where
  by : (m : Mode) → f.mode ≡ m → (m ≡ closed → ⊥) → IsOpen (opened_in output m f).0.mode → IsOpen f.mode
  by closed e n r = absurd (n refl)
  by (reading ended) e n r = r
  by writing e n r = r

absent_unread : (content : Option (List ℕ)) (m : Mode) (place : ℕ) → m ≡ closed → is_some content ≡ false
    → IsOpen (opened false (file content m place)).0.mode → ⊥
absent_unread None closed place e none r = r
absent_unread (Some bytes) closed place e none r = absurd cc
absent_unread content (reading ended) place e none r = absurd cc
absent_unread content writing place e none r = absurd cc

-- what the file is open for then
output_purpose : (content : Option (List ℕ)) (m : Mode) (place : ℕ) (output : Bool) → m ≡ closed → output ≡ true
    → purpose_in (opened output (file content m place)).0.mode ≡ Some Writing
output_purpose content closed place true e out = refl
output_purpose content closed place false e out = cc
output_purpose content (reading ended) place output e out = cc
output_purpose content writing place output e out = cc

open_purpose : (output : Bool) (content : Option (List ℕ)) (m : Mode) (place : ℕ) → (m ≡ closed → ⊥)
    → purpose_in (opened output (file content m place)).0.mode ≡ purpose_in m
open_purpose output content closed place open_ = absurd (open_ refl)
open_purpose output content (reading ended) place open_ = refl
open_purpose output content writing place open_ = refl

abbrev purpose_if : Bool → Option Purpose
purpose_if true = Some Reading
purpose_if false = None

input_purpose : (content : Option (List ℕ)) (m : Mode) (place : ℕ) (output : Bool) → m ≡ closed → output ≡ false
    → purpose_in (opened output (file content m place)).0.mode ≡ purpose_if (is_some content)
input_purpose content m place true e input = cc
input_purpose None closed place false e input = refl
input_purpose (Some bytes) closed place false e input = refl
input_purpose content (reading ended) place false e input = cc
input_purpose content writing place false e input = cc

module _ (s : Setting) (w : World) (o : Opening) (path : List ℕ) (is : IsPath s o.file path) (f : File)
    (has : slice_get w.files o.file ≡ Some f) where
  -- where ids stand behind a file that is opened
  begun_stand : (old new : FilesState) (before after : Ids) (output : Bool) (g : File) → g.mode ≡ closed
      → (writes : Bool) → o.file < length before → IsOpenedAt new before after path o.file writes true
      → KeepsHandles old new → AreOpen old before → StandsOrBegins old new before after path o.file output g
  begun_stand old new before after output g mode_ writes within begun others live = record {
    stand = λ other id u is_. elim (held_in_set before o.file other id u (Some (record { id = begun.0; writes = writes }))
        within (subst (λ ids. IsHeld ids other u id) begun.1 is_)) [
          | inl here ↦ inr (
            here.0,
            mode_,
            subst (λ n. IfSome (known_handle new n) (λ handle. handle ≡ record { name = path; place = 0 }))
                (ap (λ (x : Held). x.id) (same_held (record { id = begun.0; writes = writes })
                (record { id = id; writes = u }) here.1)) begun.2,
          )
          | inr was ↦ inl (
            was.1,
            others id (subst (λ x. IsSome x) (sym (live.purpose other id u was.1)) refl),
            λ e reads. absurd (was.0 e),
          )
        ];
  }

  unchanged : {p : Option Purpose} → p ≡ purpose_in f.mode
      → slice_set (purposes_of w.files) o.file p ≡ purposes_of w.files
  unchanged {p} e =
      set_same (purposes_of w.files) o.file p
      (purpose_at w.files o.file f has ∙ ap (λ (q : Option Purpose). Some q) (sym e))

  pub output_ready : (old new : FilesState) (before after : Ids) → f.mode ≡ closed → o.output ≡ true
      → CreatesFor old new before after path o.file → AreOpen old before → ReadyToOpen s w w o old new before after
  output_ready old new before after mode output creates live = record {
    path = path;
    file = f;
    is = is;
    has = has;
    ready = record {
      well = creates.empties.well;
      known = λ told e.
          let k = creates.empties.known told e in
          record { now = k.now; is = k.is; others = k.others; it = rw (mode, output) k.it };
    };
    stand = begun_stand old new before after o.output f mode true creates.within creates.opened creates.others live;
    purposes = λ h.
        ap purposes_for creates.opened.1
        ∙ map_set purpose_for before o.file (Some (record { id = creates.opened.0; writes = true }))
        ∙ ap (λ (ps : List (Option Purpose)). slice_set ps o.file (Some Writing)) h
        ∙ ap (slice_set (purposes_of w.files) o.file)
        (sym (output_purpose f.content f.mode f.place o.output mode output));
    keeps = places_stay w.files;
    same = λ told text e synced. (refl, synced);
  }

  -- the file is open: its status will tell
  pub open_ready : (old : FilesState) → (f.mode ≡ closed → ⊥) → (ids : Ids) → ReadyToOpen s w w o old old ids ids
  open_ready old open_ ids = record {
    path = path;
    file = f;
    is = is;
    has = has;
    ready = record {
      well = record { reading = refl; writing = refl };
      known = λ told e.
          record { now = told; is = e; others = λ name apart. refl; it = agrees told o.output f.mode open_ };
    };
    stand = record { stand = λ other id writes is_. inl (is_, refl, λ e reads. open_reads o.output f open_ reads) };
    purposes = λ h. h ∙ sym (unchanged (open_purpose o.output f.content f.mode f.place open_));
    keeps = places_stay w.files;
    same = λ told text e synced. (refl, synced);
  } where
    agrees : (told : Contents) (b : Bool) (m : Mode) → (m ≡ closed → ⊥) → IsReadyToOpenIn told told path b m f.content
    agrees told b closed n = absurd (n refl)
    agrees told b (reading ended) n = refl
    agrees told b writing n = refl

  module _ (old new : FilesState) (before after : Ids) (mode_ : f.mode ≡ closed) (input : o.output ≡ false) where
    -- where ids stand behind it
    opened_stand : o.file < length before → (there : Bool) → IsOpenedAt new before after path o.file false there
        → KeepsHandles old new → AreOpen old before → (content : Option (List ℕ)) → is_some content ≡ there
        → StandsOrBegins old new before after path o.file o.output (file content f.mode f.place)
    opened_stand within false same others live content none = record {
      stand = λ other id writes is_.
          let was : IsHeld before other writes id = subst (λ ids. IsHeld ids other writes id) same is_ in
          inl (
            was,
            others id (subst (λ x. IsSome x) (sym (live.purpose other id writes was)) refl),
            λ e reads. absurd (absent_unread content f.mode f.place mode_ none
                (subst (λ b. IsOpen (opened b (file content f.mode f.place)).0.mode) input reads)),
          );
    }
    opened_stand within true begun others live content some =
        begun_stand old new before after o.output (file content f.mode f.place) mode_ false within begun others live

    -- which files have ids behind it
    opened_purposes : (there : Bool) → IsOpenedAt new before after path o.file false there
        → (content : Option (List ℕ)) → is_some content ≡ there → purposes_for before ≡ purposes_of w.files
        → purposes_for after
        ≡ slice_set (purposes_of w.files) o.file (purpose_in (opened o.output (file content f.mode f.place)).0.mode)
    opened_purposes there at content is h =
        let p = input_purpose content f.mode f.place o.output mode_ input in
        by there at (p ∙ ap purpose_if is) where
          by : (b : Bool) → IsOpenedAt new before after path o.file false b
              → purpose_in (opened o.output (file content f.mode f.place)).0.mode ≡ purpose_if b
              → purposes_for after
              ≡ slice_set (purposes_of w.files) o.file (purpose_in (opened o.output (file content f.mode f.place)).0.mode)
          by false same p = ap purposes_for same ∙ h ∙ sym (unchanged (p ∙ ap purpose_in (sym mode_)))
          by true begun p =
              ap purposes_for begun.1 ∙ map_set purpose_for before o.file (Some (record { id = begun.0; writes = false }))
              ∙ ap (λ (ps : List (Option Purpose)). slice_set ps o.file (Some Reading)) h
              ∙ ap (slice_set (purposes_of w.files) o.file) (sym p)

    pub opened_ready : (v : World) → OpensInto old new before after path o.file w v → known_bytes new ≡ known_bytes old
        → AreOpen old before → ReadyToOpen s w v o old new before after
    opened_ready v opens known live =
        let content = opens.content in
        let g = file content f.mode f.place in
        let files_ : v.files ≡ slice_set w.files o.file g =
        ap (λ (u : World). u.files) opens.world ∙ refilled_is w.files o.file f content has in
        let world_ : v ≡ with_files w (slice_set w.files o.file g) =
        opens.world ∙ ap (with_files w) (refilled_is w.files o.file f content has) in
        record {
          path = path;
          file = g;
          is = is;
          has = ap (λ (fs : List File). slice_get fs o.file) files_ ∙ get_set w.files o.file f g has;
          ready = record {
            well = opens.opens.well;
            known = λ told e. record {
              now = told;
              is = known ∙ e;
              others = λ name apart. refl;
              it = rw (input, mode_) (refl, opens.is ∙ opens.opens.there_ told e);
            };
          };
          stand = opened_stand opens.opens.within opens.there opens.opens.opened opens.opens.others live content opens.is;
          purposes = λ h.
              opened_purposes opens.there opens.opens.opened content opens.is h
              ∙ ap (λ (ps : List (Option Purpose)). slice_set ps o.file (purpose_in (opened o.output g).0.mode))
              (sym (ap purposes_of files_ ∙ purposes_kept w.files o.file f g has refl));
          keeps = record {
            each = subst (λ (fs : List File). StayAt w.files fs) (sym files_) (set_stays w.files o.file g
                (λ reads. subst (λ (m : Mode). IsOpen m → ⊥) (sym mode_) (λ r. r) reads));
            purposes = ap purposes_of files_ ∙ purposes_kept w.files o.file f g has refl;
          };
          same = λ told text e synced.
              let r = refilled_seen told f mode_ content (paths_of s) w.files o.file synced has in (
                ap (seen told (paths_of s) text) world_
                    ∙ ap (λ (fs : List File). record {
                      storage = w.storage;
                      counts = w.counts;
                      files = fs;
                      shown = text
                          ++ w.shown;
                    }) r.0,
                subst (λ (fs : List File). AreSynced told (paths_of s) fs) (sym files_) r.1,
              );
        }

pub is_closed_true : (m : FileMode) (n : Mode) → n ≡ plain_mode m → is_closed (plain_mode m) ≡ true → n ≡ closed
is_closed_true mode.Closed n seen_ e = seen_
is_closed_true (mode.Reading ended) n seen_ e = cc
is_closed_true mode.Writing n seen_ e = cc

pub is_closed_false : (m : FileMode) (n : Mode) → n ≡ plain_mode m → is_closed (plain_mode m) ≡ false → n ≡ closed → ⊥
is_closed_false m n seen_ e c =
    let f : is_closed (plain_mode m) ≡ true = ap is_closed (sym seen_ ∙ c) in
    cc
