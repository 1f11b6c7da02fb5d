-- What a statement that isn't done, or a call within it, leaves of the outside's files.
use Rattle.std.specs.Prelude.{◌≡◌, ℕ, ◌==◌, ◌&&◌, ◌<◌, ◌⊎◌, Bool, true, false, List, [], length, take, slice_get, Option, Some}
use Rattle.std.specs.List.{list_any}
use Rattle.std.specs.FinMap.{get}
use Rattle.batch_io.specs.FilesState.{Contents, FilesState, known_bytes}
use Rattle.cob_program.specs.declared.act.Opening.{Opening}
use Rattle.cob_program.specs.Act.{Act, open_files}
use Rattle.cob_runs.specs.Files.{File, closed, writing, bytes_in}
use Rattle.cob_runs.specs.State.{World}
use Rattle.cob_interp.specs.Told.{seen_file, IsSynced, AgreeBut, KeepsNames}

-- ---- what is told of a file

-- What is told of a file that is being written is a front of its bytes.
abbrev pub IsFront : File → Option (List ℕ) → Type 0
IsFront f now = (f.mode ≡ writing) × ((n : ℕ) × (now ≡ Some (take n (bytes_in f))))

-- A closed file that is opened for output is told empty already.
abbrev pub IsEmptied : Bool → File → Option (List ℕ) → Type 0
IsEmptied makes f now = (makes ≡ true) × ((f.mode ≡ closed) × (now ≡ Some []))

-- A file is told as these bytes; or, where it is being written, as a front of them; or, where it is closed and opened for
-- output, nothing yet.
abbrev pub IsPartOf : Bool → File → Option (List ℕ) → Option (List ℕ) → Type 0
IsPartOf makes f whole now = (now ≡ whole) ⊎ (IsFront f now ⊎ IsEmptied makes f now)

-- Of a file that is being written fewer bytes are told than it has.
abbrev pub IsShort : File → Option (List ℕ) → Type 0
IsShort f now = (f.mode ≡ writing) × ((n : ℕ) × (n < length (bytes_in f)) × (now ≡ Some (take n (bytes_in f))))

-- ---- the files that an OPEN makes anew

abbrev pub makes_in : List Opening → ℕ → Bool
makes_in os place = list_any (λ o. o.output && (o.file == place)) os

abbrev pub makes_by : Act → ℕ → Bool
makes_by (open_files os) place = makes_in os place
makes_by _ place = false

abbrev pub makes_none : ℕ → Bool
makes_none place = false

-- ---- one name

-- the name holds a part of the file as the run sees it
pub record TouchesOneIn (path : List ℕ) (f : File) (told : Contents) (known : Option Contents) : Type 0 where
  pub now : Contents
  pub is : known ≡ Some now
  pub others : AgreeBut told now path
  pub it : IsSynced told path f
      → IsPartOf false (seen_file told path f) (seen_file told path f).content (get now path)

pub record TouchesOne (old new : FilesState) (path : List ℕ) (f : File) : Type 0 where
  pub known : (told : Contents) → known_bytes old ≡ Some told → TouchesOneIn path f told (known_bytes new)

-- the name holds fewer bytes than its file has, as the run sees it
pub record LosesOneIn (path : List ℕ) (f : File) (told : Contents) (known : Option Contents) : Type 0 where
  pub now : Contents
  pub is : known ≡ Some now
  pub it : IsSynced told path f → IsShort (seen_file told path f) (get now path)

pub record LosesOne (old new : FilesState) (path : List ℕ) (f : File) : Type 0 where
  pub known : (told : Contents) → known_bytes old ≡ Some told → LosesOneIn path f told (known_bytes new)

-- ---- all names

module _ (paths : List (List ℕ)) (makes : ℕ → Bool) (w : World) where
  -- each path holds a part of its file as the run sees it; all other names hold what they held
  pub record TouchesIn (told now : Contents) : Type 0 where
    pub its : (place : ℕ) (path : List ℕ) (f : File) → slice_get paths place ≡ Some path
        → slice_get w.files place ≡ Some f → IsSynced told path f
        → IsPartOf (makes place) (seen_file told path f) (seen_file told path f).content (get now path)
    pub others : KeepsNames told now paths

  pub record IsTouched (told : Contents) (known : Option Contents) : Type 0 where
    pub now : Contents
    pub is : known ≡ Some now
    pub touches : TouchesIn told now

  -- The names hold a part of their files, whatever the call answers.
  pub record Touches (old new : FilesState) : Type 0 where
    pub known : (told : Contents) → known_bytes old ≡ Some told → IsTouched told (known_bytes new)

  -- In an OPEN each path holds what it held, or nothing yet where its file is closed and opened for output; all other
  -- names hold what they held.
  pub record IsMade (told : Contents) (known : Option Contents) : Type 0 where
    pub now : Contents
    pub is : known ≡ Some now
    pub its : (place : ℕ) (path : List ℕ) (f : File) → slice_get paths place ≡ Some path
        → slice_get w.files place ≡ Some f
        → (get now path ≡ get told path) ⊎ IsEmptied (makes place) f (get now path)
    pub others : KeepsNames told now paths

  pub record Makes (old new : FilesState) : Type 0 where
    pub known : (told : Contents) → known_bytes old ≡ Some told → IsMade told (known_bytes new)

-- one path holds fewer bytes than its file has, as the run sees it
pub record LosesIn (paths : List (List ℕ)) (w : World) (told : Contents) (known : Option Contents) : Type 0 where
  pub now : Contents
  pub is : known ≡ Some now
  pub place : ℕ
  pub path : List ℕ
  pub at : slice_get paths place ≡ Some path
  pub it : (f : File) → slice_get w.files place ≡ Some f → IsSynced told path f
      → IsShort (seen_file told path f) (get now path)

-- A write of what waits was refused.
pub record Loses (paths : List (List ℕ)) (w : World) (old new : FilesState) : Type 0 where
  pub known : (told : Contents) → known_bytes old ≡ Some told → LosesIn paths w told (known_bytes new)

-- ---- how files change within a statement

-- A CLOSE leaves each file as it was, or closed.
pub record ShutsOnly (old new : World) : Type 0 where
  pub each : (place : ℕ) (f : File) → slice_get old.files place ≡ Some f
      → (g : File) × (slice_get new.files place ≡ Some g) × ((g ≡ f) ⊎ (g.mode ≡ closed))

-- So the run sees it.
pub record ClosesIn (paths : List (List ℕ)) (w v : World) (told : Contents) (known : Option Contents) : Type 0 where
  pub now : Contents
  pub is : known ≡ Some now
  pub each : (place : ℕ) (path : List ℕ) (f : File) → slice_get paths place ≡ Some path
      → slice_get w.files place ≡ Some f → IsSynced told path f
      → (g : File) × (slice_get v.files place ≡ Some g) × IsSynced now path g
      × ((seen_file now path g ≡ seen_file told path f) ⊎ (g.mode ≡ closed))

pub record ClosesOnly (paths : List (List ℕ)) (old new : FilesState) (w v : World) : Type 0 where
  pub known : (told : Contents) → known_bytes old ≡ Some told → ClosesIn paths w v told (known_bytes new)

-- an OPEN closes no file
pub record OpensOnly (old new : World) : Type 0 where
  pub each : (place : ℕ) (f : File) → slice_get old.files place ≡ Some f
      → (g : File) × (slice_get new.files place ≡ Some g) × (g.mode ≡ closed → f.mode ≡ closed)
