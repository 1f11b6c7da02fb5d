-- Which ids are open for the files that are read and written, and where they stand.
use Rattle.std.specs.Prelude.{◌≡◌, ℕ, Bool, true, false, List, length, map, slice_get, Option, Some, None, IsSome, IfSome, Result, MatchResult}
use Rattle.batch_io.specs.FilesState.{FilesState, Purpose, Reading, Writing, known_handle}
use Rattle.cob_runs.specs.Files.{File, Mode, closed, reading, writing}
use Rattle.cob_interp.specs.declared.ends.RunEnd.{RunEnd}
use Rattle.cob_interp.specs.declared.handles.Held.{Held}
use Rattle.cob_interp.specs.Ends.{IfOwn}

-- for each file the id under which it is open, if it is, and what for
abbrev pub Ids : Type 0
Ids = List (Option Held)

abbrev pub purpose_by : Bool → Purpose
purpose_by false = Reading
purpose_by true = Writing

-- the file at a place is read or written under this id
abbrev pub IsHeld : Ids → ℕ → Bool → ℕ → Type 0
IsHeld ids place writes id = slice_get ids place ≡ Some (Some (record { id = id; writes = writes }))

-- the file at a place is read, or written, under some id
abbrev pub IsHeldFor : Ids → ℕ → Bool → Type 0
IsHeldFor ids place writes = (id : ℕ) × IsHeld ids place writes id

-- no file is open under this id
abbrev pub IsElse : Ids → ℕ → Type 0
IsElse ids id = (place : ℕ) (writes : Bool) → IsHeld ids place writes id → ⊥

-- no file is open
abbrev pub AreNone : Ids → Type 0
AreNone ids = (place id : ℕ) (writes : Bool) → IsHeld ids place writes id → ⊥

-- The ids are open for what they are held, each for one file.
pub record AreOpen (state : FilesState) (ids : Ids) : Type 0 where
  pub purpose : (place id : ℕ) (writes : Bool) → IsHeld ids place writes id → state.purpose id ≡ Some (purpose_by writes)
  pub apart : (place other id : ℕ) (writes more : Bool) → IsHeld ids place writes id → IsHeld ids other more id
      → place ≡ other

-- Each other id is as it was at first, and these weren't open then.
pub record KeepsBut (first now : FilesState) (ids : Ids) : Type 0 where
  pub fresh : (place id : ℕ) (writes : Bool) → IsHeld ids place writes id → first.purpose id ≡ None
  pub purpose : (id : ℕ) → IsElse ids id → now.purpose id ≡ first.purpose id
  pub handle : (id : ℕ) → IsElse ids id → IsSome (first.purpose id) → known_handle now id ≡ known_handle first id

-- How a call changes the ids that are open.
pub record Tracks (old new : FilesState) (before after : Ids) : Type 0 where
  pub live : AreOpen new after
  pub others : (first : FilesState) → KeepsBut first old before → KeepsBut first new after

abbrev pub IsOpen : Mode → Type 0
IsOpen closed = ⊥
IsOpen (reading ended) = Unit {0}
IsOpen writing = Unit {0}

-- what a file's id is open for, by the file's mode
abbrev pub purpose_in : Mode → Option Purpose
purpose_in closed = None
purpose_in (reading ended) = Some Reading
purpose_in writing = Some Writing

abbrev pub purposes_of : List File → List (Option Purpose)
purposes_of files = map (λ f. purpose_in f.mode) files

-- what a file's id is open for, by the id that is held
abbrev pub purpose_for : Option Held → Option Purpose
purpose_for None = None
purpose_for (Some x) = Some (purpose_by x.writes)

abbrev pub purposes_for : Ids → List (Option Purpose)
purposes_for ids = map purpose_for ids

-- What is told of a file's id is its path, and how many of its bytes were read.
abbrev pub StandAt : List (List ℕ) → FilesState → Ids → List File → Type 0
StandAt paths state ids files =
    (place id : ℕ) (writes : Bool) (path : List ℕ) (f : File) → IsHeld ids place writes id
    → slice_get paths place ≡ Some path → slice_get files place ≡ Some f → IsOpen f.mode
    → IfSome (known_handle state id) (λ handle. handle ≡ record { name = path; place = f.place })

-- Each path has its file; each file has the id that its mode asks for, and it stands where the file does.
pub record ArePlaced (paths : List (List ℕ)) (state : FilesState) (ids : Ids) (files : List File) : Type 0 where
  pub count : length files ≡ length paths
  pub stand : StandAt paths state ids files
  pub purposes : purposes_for ids ≡ purposes_of files

-- Each path has its file; each file that is written is so under an id that stands for its path.
pub record AreWritten (paths : List (List ℕ)) (state : FilesState) (ids : Ids) (files : List File) : Type 0 where
  pub count : length files ≡ length paths
  pub held : (place : ℕ) (f : File) → slice_get files place ≡ Some f → f.mode ≡ writing → IsHeldFor ids place true
  pub stand : (place id : ℕ) (writes : Bool) (path : List ℕ) (f : File) → IsHeld ids place writes id
      → slice_get paths place ≡ Some path → slice_get files place ≡ Some f → f.mode ≡ writing
      → IfSome (known_handle state id) (λ handle. handle ≡ record { name = path; place = f.place })

-- Where a part of a statement was done, each file has its id; where the run came to its own end there, those that are
-- written have theirs.
abbrev pub AreLeft : {A : Type 0} → List (List ℕ) → FilesState → Ids → List File → Result A RunEnd → Type 0
AreLeft paths state ids files result =
    MatchResult result (λ _. ArePlaced paths state ids files) (λ e. IfOwn e (AreWritten paths state ids files))

-- Each file that is open now was open before, at the same place.
abbrev pub StayAt : List File → List File → Type 0
StayAt old new =
    (place : ℕ) (g : File) → slice_get new place ≡ Some g → IsOpen g.mode
    → (f : File) × (slice_get old place ≡ Some f) × IsOpen f.mode × (f.place ≡ g.place)

-- The files that are open now are those that were open before, each for the same and at the same place.
pub record KeepsPlaces (old new : List File) : Type 0 where
  pub each : StayAt old new
  pub purposes : purposes_of new ≡ purposes_of old
