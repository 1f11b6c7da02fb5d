-- How the world of a program's run stands in what the interpreter keeps: a world of its own, the outside's files, and
-- the text that was already shown.
use Rattle.std.specs.Prelude.{◌≡◌, ◌≢◌, ◌≤◌, ℕ, Bool, true, false, List, [], ◌∷◌, ◌++◌, length, map, Contains, Option, Some, is_some}
use Rattle.std.specs.FinMap.{get}
use Rattle.batch_io.specs.FilesState.{Contents, bytes_at}
use Rattle.cob_runs.specs.Files.{File, file, Mode, closed, reading, writing, bytes_in}
use Rattle.cob_runs.specs.State.{World}

module _ (told : Contents) where
  -- A file holds what is told under its path; behind that of one that is being written stands what waits of it.
  abbrev pub seen_in : Mode → List ℕ → File → File
  seen_in closed path f = file (get told path) closed f.place
  seen_in (reading ended) path f = file (get told path) (reading ended) f.place
  seen_in writing path f = file (Some (bytes_at told path ++ bytes_in f)) writing f.place

  abbrev pub seen_file : List ℕ → File → File
  seen_file path f = seen_in f.mode path f

  abbrev pub seen_files : List (List ℕ) → List File → List File
  seen_files [] fs = fs
  seen_files (path ∷ paths) [] = []
  seen_files (path ∷ paths) (f ∷ fs) = seen_file path f ∷ seen_files paths fs

  -- the world that the run works on, where this text was shown already
  abbrev pub seen : List (List ℕ) → List ℕ → World → World
  seen paths text w =
      record { storage = w.storage; counts = w.counts; files = seen_files paths w.files; shown = text ++ w.shown }

  -- An open file is told too; of one that is read, no more was read than it has.
  abbrev pub IsSyncedIn : Mode → List ℕ → Option (List ℕ) → ℕ → Type 0
  IsSyncedIn closed path content place = Unit {0}
  IsSyncedIn (reading ended) path content place =
      (bytes : List ℕ) × (get told path ≡ Some bytes) × (place ≤ length bytes)
  IsSyncedIn writing path content place = (bytes : List ℕ) × (get told path ≡ Some bytes)

  abbrev pub IsSynced : List ℕ → File → Type 0
  IsSynced path f = IsSyncedIn f.mode path f.content f.place

  -- each file has its path
  abbrev pub AreSynced : List (List ℕ) → List File → Type 0
  AreSynced [] [] = Unit {0}
  AreSynced [] (f ∷ fs) = ⊥
  AreSynced (path ∷ paths) [] = ⊥
  AreSynced (path ∷ paths) (f ∷ fs) = IsSynced path f × AreSynced paths fs

-- names that are no paths of the program's hold what they held
abbrev pub KeepsNames : Contents → Contents → List (List ℕ) → Type 0
KeepsNames old new paths = (name : List ℕ) → (Contains paths name → ⊥) → get new name ≡ get old name

-- no two paths are equal
abbrev pub AreDistinct : List (List ℕ) → Type 0
AreDistinct [] = Unit {0}
AreDistinct (path ∷ paths) = (Contains paths path → ⊥) × AreDistinct paths

-- the files hold this behind the run
pub record Holds (old new : Contents) (paths : List (List ℕ)) (files : List File) : Type 0 where
  pub its : map (get new) paths ≡ map (λ f. f.content) files
  pub others : KeepsNames old new paths

-- ---- where the outside's files are made ready for OPEN, and what waits goes out

module _ (told now : Contents) where
  -- each name but one holds what it held
  abbrev pub AgreeBut : List ℕ → Type 0
  AgreeBut path = (name : List ℕ) → name ≢ path → get now name ≡ get told name

  module _ (path : List ℕ) where
    -- a closed file that is opened for writing is told empty, and one that is opened for reading is kept as there
    -- exactly where it is told
    abbrev pub IsReadyToOpenIn : Bool → Mode → Option (List ℕ) → Type 0
    IsReadyToOpenIn true closed content = get now path ≡ Some []
    IsReadyToOpenIn false closed content = (get now path ≡ get told path) × (is_some content ≡ is_some (get told path))
    IsReadyToOpenIn output (reading ended) content = get now path ≡ get told path
    IsReadyToOpenIn output writing content = get now path ≡ get told path

    -- what waits of a file that is being written went out
    abbrev pub IsOutIn : Mode → File → Type 0
    IsOutIn closed f = get now path ≡ get told path
    IsOutIn (reading ended) f = get now path ≡ get told path
    IsOutIn writing f = (bytes : List ℕ) → get told path ≡ Some bytes → get now path ≡ Some (bytes ++ bytes_in f)

    abbrev pub IsReadyToOpen : Bool → File → Type 0
    IsReadyToOpen output f = IsReadyToOpenIn output f.mode f.content

    abbrev pub IsOut : File → Type 0
    IsOut f = IsOutIn f.mode f
