-- How the outside's files are opened and closed, and what waits of them goes out.
use Rattle.std.specs.Prelude.{◌≡◌, ◌<◌, ◌≤◌, ◌⊎◌, ◌+◌, ℕ, Bool, true, false, not, List, [], length, take, slice_get, slice_set, Option, Some, None, IsSome, IfSome, is_some, Result, Ok, Err, MatchResult}
use Rattle.std.specs.FinMap.{get}
use Rattle.batch_io.specs.FilesState.{Contents, FilesState, Gives, known_bytes, known_handle, known_rest}
use Rattle.batch_io.specs.Faults.{Rose}
use Rattle.batch_io.specs.Wholes.{Grows}
use Rattle.cob_data.specs.declared.layout.FileDecl.{FileDecl}
use Rattle.cob_program.specs.declared.act.Opening.{Opening}
use Rattle.cob_runs.specs.Files.{File, file, Mode, closed, reading, writing, opened, bytes_in}
use Rattle.cob_runs.specs.State.{World, with_files}
use Rattle.cob_world.specs.Calling.{refilled}
use Rattle.cob_runs.specs.Acts.{decl_at}
use Rattle.cob_interp.specs.declared.ends.RunEnd.{RunEnd}
use Rattle.cob_interp.specs.declared.ends.RunEnd.TheVariants as end
use Rattle.cob_interp.specs.declared.setting.Setting.{Setting}
use Rattle.cob_interp.specs.Told.{seen, seen_file, seen_files, IsSynced, AreSynced, AgreeBut, KeepsNames, IsReadyToOpen, IsOut}
use Rattle.cob_interp.specs.Tracking.{Ids, IsHeld, IsHeldFor, IsOpen, purpose_in, purposes_of, purposes_for, KeepsPlaces}
use Rattle.cob_interp.specs.Setting.{paths_of}

-- no fault was met
pub record AreWell (old new : FilesState) : Type 0 where
  pub reading : new.reading ≡ old.reading
  pub writing : new.writing ≡ old.writing

-- no fault was met, and each name but one holds what it held
pub record Keeps (told : Contents) (known : Option Contents) (path : List ℕ) (IsIt : Contents → Type 0) : Type 0 where
  pub now : Contents
  pub is : known ≡ Some now
  pub others : AgreeBut told now path
  pub it : IsIt now

pub record Readies (old new : FilesState) (path : List ℕ) (IsIt : Contents → Contents → Type 0) : Type 0 where
  pub well : AreWell old new
  pub known : (told : Contents) → known_bytes old ≡ Some told → Keeps told (known_bytes new) path (IsIt told)

-- why a call on the outside is refused
abbrev pub IsRefusal : FilesState → FilesState → RunEnd → Type 0
IsRefusal old new end.ReadFault = Rose old.reading new.reading
IsRefusal old new end.WriteFault = Rose old.writing new.writing
IsRefusal old new end.Memory = Unit {0}
IsRefusal old new _ = ⊥

-- ---- a file of the program

pub record IsPath (s : Setting) (place : ℕ) (path : List ℕ) : Type 0 where
  pub decl : FileDecl
  pub declared : decl_at s.program.now.layout place ≡ Some decl
  pub path_ : slice_get (paths_of s) place ≡ Some path

-- the program has a file at this place
abbrev pub IsDeclared : Setting → ℕ → Type 0
IsDeclared s place = (decl : FileDecl) × (decl_at s.program.now.layout place ≡ Some decl)

pub record IsSize (s : Setting) (place size : ℕ) : Type 0 where
  pub decl : FileDecl
  pub declared : decl_at s.program.now.layout place ≡ Some decl
  pub size_ : decl.length ≡ size

-- ---- what waits of a file that is written

-- These bytes stand at the end of the file that is written under the id at a place.
pub record PutsUnder (old new : FilesState) (ids : Ids) (place : ℕ) (bytes : List ℕ) : Type 0 where
  pub well : AreWell old new
  pub id : ℕ
  pub is : IsHeld ids place true id
  pub grows : Grows old new id bytes

-- These bytes, or a front of them, do.
pub record PutsUnderPart (old new : FilesState) (ids : Ids) (place : ℕ) (bytes : List ℕ) : Type 0 where
  pub id : ℕ
  pub is : IsHeld ids place true id
  pub front : (n : ℕ) × Grows old new id (take n bytes)

-- A front of them does, and not all.
pub record PutsShort (old new : FilesState) (ids : Ids) (place : ℕ) (bytes : List ℕ) : Type 0 where
  pub id : ℕ
  pub is : IsHeld ids place true id
  pub front : (n : ℕ) × (n < length bytes) × Grows old new id (take n bytes)

-- What is told of the id at a place, where its file is written, is this path.
abbrev pub IsNamed : FilesState → Ids → ℕ → List ℕ → File → Type 0
IsNamed state ids place path f =
    (id : ℕ) (writes : Bool) → IsHeld ids place writes id → f.mode ≡ writing
    → IfSome (known_handle state id) (λ handle. handle ≡ record { name = path; place = f.place })

-- What waits of the file at a place went out.
pub record GoesOut (s : Setting) (w : World) (place : ℕ) (old new : FilesState) : Type 0 where
  pub path : List ℕ
  pub file : File
  pub is : IsPath s place path
  pub has : slice_get w.files place ≡ Some file
  pub ready : Readies old new path (λ told now. IsOut told now path file)

-- nothing waits any more
abbrev pub emptied_in : Mode → File → File
emptied_in closed f = f
emptied_in (reading ended) f = f
emptied_in writing f = file (Some []) writing f.place

abbrev pub emptied_file : File → File
emptied_file f = emptied_in f.mode f

abbrev pub emptied_on : ℕ → List File → Option File → List File
emptied_on place files None = files
emptied_on place files (Some f) = slice_set files place (emptied_file f)

abbrev pub emptied : ℕ → World → World
emptied place w = with_files w (emptied_on place w.files (slice_get w.files place))

-- how many bytes were read of a file that is being written
abbrev pub IsWrittenAt : Option File → Option ℕ → Type 0
IsWrittenAt None None = Unit {0}
IsWrittenAt None (Some at) = ⊥
IsWrittenAt (Some f) None = f.mode ≡ writing → ⊥
IsWrittenAt (Some f) (Some at) = (f.mode ≡ writing) × (f.place ≡ at)

-- The run sees in another world, and in what is told then, what it saw.
pub record SeesIn (paths : List (List ℕ)) (w v : World) (told : Contents) (known : Option Contents) : Type 0 where
  pub now : Contents
  pub is : known ≡ Some now
  pub same : AreSynced told paths w.files
      → (seen_files now paths v.files ≡ seen_files told paths w.files) × AreSynced now paths v.files
  pub each : (place : ℕ) (path : List ℕ) (f : File) → slice_get paths place ≡ Some path
      → slice_get w.files place ≡ Some f → IsSynced told path f
      → (g : File) × (slice_get v.files place ≡ Some g) × IsSynced now path g
      × (seen_file now path g ≡ seen_file told path f)
  pub others : KeepsNames told now paths

pub record Sees (paths : List (List ℕ)) (old new : FilesState) (w v : World) : Type 0 where
  pub well : AreWell old new
  pub world : v ≡ with_files w v.files
  pub known : (told : Contents) → known_bytes old ≡ Some told → SeesIn paths w v told (known_bytes new)

-- Nothing waits of the files at the first places, so many of them.
abbrev pub AreEmptied : List File → ℕ → Type 0
AreEmptied files count =
    (place : ℕ) (f : File) → place < count → slice_get files place ≡ Some f → f.mode ≡ writing → bytes_in f ≡ []

-- ---- ids

-- The file at a place is open now under an id that stands at the first byte of this name; or it isn't there.
abbrev pub IsOpenedAt : FilesState → Ids → Ids → List ℕ → ℕ → Bool → Bool → Type 0
IsOpenedAt new before after name place writes true =
    (id : ℕ) × (after ≡ slice_set before place (Some (record { id = id; writes = writes })))
    × IfSome (known_handle new id) (λ handle. handle ≡ record { name = name; place = 0 })
IsOpenedAt new before after name place writes false = after ≡ before

abbrev pub KeepsHandles : FilesState → FilesState → Type 0
KeepsHandles old new = (other : ℕ) → IsSome (old.purpose other) → known_handle new other ≡ known_handle old other

-- a file of this name is opened for the file at a place, if it is there
pub record OpensFor (old new : FilesState) (before after : Ids) (name : List ℕ) (place : ℕ) (there : Bool) : Type 0 where
  pub well : AreWell old new
  pub within : place < length before
  pub there_ : (told : Contents) → known_bytes old ≡ Some told → there ≡ is_some (get told name)
  pub opened : IsOpenedAt new before after name place false there
  pub others : KeepsHandles old new

-- the name is told empty
abbrev pub IsEmpty : List ℕ → Contents → Contents → Type 0
IsEmpty name told now = get now name ≡ Some []

-- a file of this name is made for the file at a place
pub record CreatesFor (old new : FilesState) (before after : Ids) (name : List ℕ) (place : ℕ) : Type 0 where
  pub within : place < length before
  pub empties : Readies old new name (IsEmpty name)
  pub opened : IsOpenedAt new before after name place true true
  pub others : KeepsHandles old new

-- the name holds what it held, or nothing; all other names hold what they held
pub record IsCreatedIn (name : List ℕ) (told : Contents) (known : Option Contents) : Type 0 where
  pub now : Contents
  pub is : known ≡ Some now
  pub others : AgreeBut told now name
  pub it : (get now name ≡ get told name) ⊎ (get now name ≡ Some [])

pub record CreatesPart (old new : FilesState) (name : List ℕ) : Type 0 where
  pub known : (told : Contents) → known_bytes old ≡ Some told → IsCreatedIn name told (known_bytes new)

-- the id of the file at a place, if it has one, is closed
pub record ClosesFor (old new : FilesState) (before after : Ids) (place : ℕ) : Type 0 where
  pub well : AreWell old new
  pub ids : (other id : ℕ) (writes : Bool) → IsHeld after other writes id
      → IsHeld before other writes id × (known_handle new id ≡ known_handle old id)

-- why a run ends where a close fails
abbrev pub close_fault : Bool → RunEnd
close_fault true = end.WriteFault
close_fault false = end.ReadFault

abbrev pub first_refusal : Result (Unit {0}) RunEnd → Result (Unit {0}) RunEnd → Result (Unit {0}) RunEnd
first_refusal (Ok u) other = other
first_refusal (Err e) other = Err e

-- All ids that were open are closed, whatever a close answers.
pub record ClosesAll (old new : FilesState) (result : Result (Unit {0}) RunEnd) : Type 0 where
  pub reading : old.reading ≤ new.reading
  pub writing : old.writing ≤ new.writing
  pub counts : MatchResult result (λ _. AreWell old new) (λ e. IsRefusal old new e)

-- the count of faults of files that are written, or of those that are read
abbrev pub faults_by : Bool → FilesState → ℕ
faults_by true state = state.writing
faults_by false state = state.reading

-- The close of the file at a place was refused.
pub record IsRefusedAt (old new : FilesState) (ids : Ids) (place : ℕ) (e : RunEnd) : Type 0 where
  pub writes : Bool
  pub held : IsHeldFor ids place writes
  pub is : e ≡ close_fault writes
  pub other : faults_by (not writes) new ≡ faults_by (not writes) old

-- Of files that are closed in their order this fault is the first: the other count rose, if it did, by one behind it.
pub record IsFirst (IsClosed : ℕ → Bool → Type 0) (old new : FilesState) (e : RunEnd) : Type 0 where
  pub place : ℕ
  pub writes : Bool
  pub closed_ : IsClosed place writes
  pub is : e ≡ close_fault writes
  pub other : (faults_by (not writes) new ≡ faults_by (not writes) old)
      ⊎ ((behind : ℕ) × (place < behind) × IsClosed behind (not writes))

-- The next bytes of the file at a place stand at the front of its room, which holds so many: as many as fit, or those to
-- the end.
pub record GivesRecord (old new : FilesState) (ids : Ids) (place size : ℕ) (room : List ℕ) (count : ℕ) : Type 0 where
  pub whole : length room ≡ size
  pub well : AreWell old new
  pub id : ℕ
  pub is : IsHeld ids place false id
  pub within : count ≤ length room
  pub given : Gives old new id (take count room)
  pub ended : count < length room → IfSome (known_rest new id) (λ rest. rest ≡ [])

-- A file of this name is opened for the file at a place, and what the kept file gets in place of its bytes is there
-- exactly where that is.
pub record OpensInto (old new : FilesState) (before after : Ids) (path : List ℕ) (place : ℕ) (w v : World) : Type 0 where
  pub there : Bool
  pub opens : OpensFor old new before after path place there
  pub content : Option (List ℕ)
  pub is : is_some content ≡ there
  pub world : v ≡ with_files w (refilled place content w.files)

-- A file that an OPEN opens is open under a new id, at its first byte. All other ids stand where they stood.
pub record StandsOrBegins (old new : FilesState) (before after : Ids) (path : List ℕ) (place : ℕ) (output : Bool)
    (f : File) : Type 0 where
  pub stand : (other id : ℕ) (writes : Bool) → IsHeld after other writes id
      → (IsHeld before other writes id × (known_handle new id ≡ known_handle old id)
      × (other ≡ place → IsOpen (opened output f).0.mode → IsOpen f.mode))
      ⊎ ((other ≡ place) × (f.mode ≡ closed)
      × IfSome (known_handle new id) (λ handle. handle ≡ record { name = path; place = 0 }))

pub record ReadyToOpen (s : Setting) (w v : World) (o : Opening) (old new : FilesState) (before after : Ids)
    : Type 0 where
  pub path : List ℕ
  pub file : File
  pub is : IsPath s o.file path
  pub has : slice_get v.files o.file ≡ Some file
  pub ready : Readies old new path (λ told now. IsReadyToOpen told now path o.output file)
  -- ids stand where they stood, but for one that the file may have got, which stands at its first byte
  pub stand : StandsOrBegins old new before after path o.file o.output file
  -- the file then has the id that its mode asks for
  pub purposes : purposes_for before ≡ purposes_of w.files
      → purposes_for after ≡ slice_set (purposes_of v.files) o.file (purpose_in (opened o.output file).0.mode)
  pub keeps : KeepsPlaces w.files v.files
  -- the file's new content isn't seen
  pub same : (told : Contents) (text : List ℕ) → known_bytes old ≡ Some told → AreSynced told (paths_of s) w.files
      → (seen told (paths_of s) text v ≡ seen told (paths_of s) text w) × AreSynced told (paths_of s) v.files

-- ---- a READ

-- the next record of the file at a place, or nothing at its end
pub record GivesWindow (old new : FilesState) (ids : Ids) (place size : ℕ) (window : List ℕ) : Type 0 where
  pub well : AreWell old new
  pub id : ℕ
  pub is : IsHeld ids place false id
  pub given : Gives old new id window
  pub whole : (length window ≡ size) ⊎ ((window ≡ []) × (0 < size) × IfSome (known_rest new id) (λ rest. rest ≡ []))

-- the file at a place, of which so many bytes were read before, has fewer bytes left than a record
pub record HasRest (old new : FilesState) (ids : Ids) (place size before count : ℕ) : Type 0 where
  pub well : AreWell old new
  pub id : ℕ
  pub is : IsHeld ids place false id
  pub left : List ℕ
  pub given : Gives old new id left
  pub some : 0 < length left
  pub few : length left < size
  pub ended : IfSome (known_rest new id) (λ rest. rest ≡ [])
  pub counted : count ≡ before + length left

abbrev pub IsRestOr : FilesState → FilesState → Ids → ℕ → ℕ → ℕ → RunEnd → Type 0
IsRestOr old new ids place size before (end.Ragged file_ count) =
    (file_ ≡ place) × HasRest old new ids place size before count
IsRestOr old new ids place size before e = IsRefusal old new e

-- A file holds a window no more, and its place goes on behind so many bytes.
abbrev pub settled_file : ℕ → File → File
settled_file before f = file (Some []) f.mode (before + f.place)

abbrev pub settled_on : ℕ → ℕ → List File → Option File → List File
settled_on place before files None = files
settled_on place before files (Some f) = slice_set files place (settled_file before f)

abbrev pub settled : ℕ → ℕ → World → World
settled place before w = with_files w (settled_on place before w.files (slice_get w.files place))

-- the bytes that were read of a file that is read, whose end wasn't met
abbrev pub IsReadOn : Option File → Option ℕ → Type 0
IsReadOn None None = Unit {0}
IsReadOn None (Some before) = ⊥
IsReadOn (Some f) None = f.mode ≡ reading false → ⊥
IsReadOn (Some f) (Some before) = (f.mode ≡ reading false) × (f.place ≡ before)
