-- The next record of a file, as it is told.
use Rattle.std.proofs.Common.{◌≡◌, ℕ, ◌+◌, ◌<◌, ◌≤◌, false, List, [], ◌++◌, length, take, drop, length-take-le, Option, Some, None, inl, inr, refl, sym, ap, subst, ◌∙◌, arith}
use Rattle.std.specs.Prelude.{slice_get, unwrap_or, option_map, IfSome}
use Rattle.std.specs.FinMap.{get}
use Rattle.std.specs.Io.KnownBytes.{prepend_known}
use Rattle.batch_io.specs.FilesState.{Contents, FilesState, Told, Handle, Gives, known_bytes, known_rest, rest_of, bytes_at}
use Rattle.cob_runs.specs.Files.{File, Mode, reading}
use Rattle.cob_interp.specs.declared.ends.RunEnd.{RunEnd}
use Rattle.cob_interp.specs.declared.ends.RunEnd.TheVariants as end
use Rattle.cob_interp.specs.Told.{IsSynced, IsSyncedIn}
use Rattle.cob_interp.specs.Tracking.{Ids, IsHeld, IsOpen, ArePlaced}
use Rattle.cob_interp.specs.Readying.{GivesRecord, GivesWindow, HasRest, IsRefusal, IsRestOr}
use Rattle.std.proofs.Math.Seq.{take-length}

-- what is left behind what was given
pub rest_split : (o : Option (List ℕ)) (window rest : List ℕ) → Some rest ≡ prepend_known window o
    → (left : List ℕ) × (o ≡ Some left) × (rest ≡ window ++ left)
rest_split None window rest e = cc
rest_split (Some left) window rest e = (left, refl, cc)

rest_at : (o : Option Told) (id : ℕ) (told : Contents) (path : List ℕ) (place : ℕ) (all : List ℕ)
    → option_map (λ t. t.bytes) o ≡ Some told
    → IfSome (option_map (λ t. t.handle id) o) (λ handle. handle ≡ record { name = path; place = place })
    → get told path ≡ Some all
    → option_map (λ t. rest_of t.bytes (t.handle id)) o ≡ Some (drop place all)
rest_at None id told path place all e h is = cc
rest_at (Some t) id told path place all e h is =
    let same : t.bytes ≡ told = cc in
    ap (λ (handle : Handle). Some (rest_of t.bytes handle)) h
    ∙ ap (λ (c : Contents). Some (drop place (bytes_at c path))) same
    ∙ ap (λ (c : Option (List ℕ)). Some (drop place (unwrap_or c []))) is

-- what is told of a file that is read: its bytes, and that no more was read
pub bytes_told : (told : Contents) (path : List ℕ) (f : File) → f.mode ≡ reading false → IsSynced told path f
    → (all : List ℕ) × (get told path ≡ Some all) × (f.place ≤ length all)
bytes_told told path f mode_ s = subst (λ (m : Mode). IsSyncedIn told m path f.content f.place) mode_ s

reads_mode : (m : Mode) → m ≡ reading false → IsOpen m
reads_mode m e = subst IsOpen (sym e) tt

module _ (old new : FilesState) (paths : List (List ℕ)) (ids : Ids) (files : List File) (placed : ArePlaced paths old ids files)
    (place id : ℕ) (path : List ℕ) (f : File) (is : IsHeld ids place false id) (at : slice_get paths place ≡ Some path)
    (has : slice_get files place ≡ Some f) (mode_ : f.mode ≡ reading false) (window : List ℕ)
    (given : Gives old new id window) (told : Contents) (e : known_bytes old ≡ Some told) (all : List ℕ)
    (held : get told path ≡ Some all) where
  -- what was given stands behind what was read before
  pub given_split : (left : List ℕ) × (known_rest new id ≡ Some left) × (drop f.place all ≡ window ++ left)
  given_split =
      rest_split (known_rest new id) window (drop f.place all)
      (sym (rest_at old.told id told path f.place all e (placed.stand place id false path f is at has (reads_mode f.mode mode_)) held)
      ∙ given.rest)

pub left_none : (o : Option (List ℕ)) (left : List ℕ) → o ≡ Some left → IfSome o (λ rest. rest ≡ []) → left ≡ []
left_none None left e h = cc
left_none (Some rest) left e h = let same : rest ≡ left = cc in sym same ∙ h

-- ---- what a READ is given

module _ (old new : FilesState) (ids : Ids) (place size : ℕ) (room : List ℕ) (count : ℕ)
    (gives : GivesRecord old new ids place size room count) where
  long : length room ≡ size
  long = gives.whole

  -- a whole record
  pub window_full : count ≡ length room → GivesWindow old new ids place size room
  window_full e = record {
    well = gives.well;
    id = gives.id;
    is = gives.is;
    given = subst (λ (bytes : List ℕ). Gives old new gives.id bytes) (ap (λ (n : ℕ). take n room) e ∙ take-length room)
        gives.given;
    whole = inl long;
  }

  -- nothing at the end
  pub window_none : count ≡ 0 → (count ≡ length room → ⊥) → GivesWindow old new ids place size []
  window_none e differ =
      let some : 0 < length room = omega (arith, e, differ) in
      record {
        well = gives.well;
        id = gives.id;
        is = gives.is;
        given = subst (λ (bytes : List ℕ). Gives old new gives.id bytes) (ap (λ (n : ℕ). take n room) e) gives.given;
        whole = inr (refl, omega (arith, some, long), gives.ended (omega (arith, some, e)));
      }

  -- a rest
  pub window_rest : (count ≡ length room → ⊥) → (count ≡ 0 → ⊥) → (before total : ℕ) → total ≡ before + count
      → HasRest old new ids place size before total
  window_rest differ some before total counted =
      let within = gives.within in
      let least : 0 < count = omega (arith, some) in
      let few : count < length room = omega (arith, within, differ) in
      let size_ : length (take count room) ≡ count = length-take-le count room within in
      record {
        well = gives.well;
        id = gives.id;
        is = gives.is;
        left = take count room;
        given = gives.given;
        some = omega (arith, size_, least);
        few = omega (arith, size_, few, long);
        ended = gives.ended few;
        counted = omega (arith, size_, counted);
      }

-- what is refused is no rest
pub window_refused : (old new : FilesState) (ids : Ids) (place size before : ℕ) (e : RunEnd) → IsRefusal old new e
    → IsRestOr old new ids place size before e
window_refused old new ids place size before end.ReadFault refused = refused
window_refused old new ids place size before end.WriteFault refused = refused
window_refused old new ids place size before end.Memory refused = tt
window_refused old new ids place size before (end.Ragged file count) refused = absurd refused
window_refused old new ids place size before (end.StepsSpent count) refused = absurd refused
window_refused old new ids place size before (end.IoStop status statement) refused = absurd refused
window_refused old new ids place size before (end.Fault kind statement step) refused = absurd refused
