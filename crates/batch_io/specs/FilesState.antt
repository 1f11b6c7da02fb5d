-- What a file object means: the names and bytes that it tells, the ids that are open, and its two counts of faults.
use Rattle.std.specs.Prelude.{◌≡◌, ◌≢◌, ℕ, ◌+◌, List, [], drop, length, unwrap_or, option_map, Option, IsSome}
use Rattle.std.specs.Ordering.{nat_cmp}
use Rattle.std.specs.Cmp.Lexicographic.{slice_cmp}
use Rattle.std.specs.FinMap.{FinMap, get}
use Rattle.std.specs.Io.KnownBytes.{prepend_known}

-- the bytes of each name
abbrev pub Contents : Type 0
Contents = FinMap (slice_cmp nat_cmp) (List ℕ)

-- what an id was opened for
pub data Purpose : Type 0 where
  Reading : Purpose
  Writing : Purpose

-- what an open id stands for: a name, and the number of its bytes that were read
pub record Handle : Type 0 where
  pub name : List ℕ
  pub place : ℕ

-- what an object that tells its contents tells. `handle` means nothing at an id that is not open
pub record Told : Type 0 where
  pub bytes : Contents
  pub handle : ℕ → Handle

pub record FilesState : Type 0 where
  pub told : Option Told
  -- for what an id is open, if it is
  pub purpose : ℕ → Option Purpose
  -- faults of open, of read, and of close of an id opened for reading
  pub reading : ℕ
  -- faults of create, of write, and of close of an id opened for writing
  pub writing : ℕ

abbrev pub known_bytes : FilesState → Option Contents
known_bytes state = option_map (λ told. told.bytes) state.told

abbrev pub known_handle : FilesState → ℕ → Option Handle
known_handle state id = option_map (λ told. told.handle id) state.told

abbrev pub bytes_at : Contents → List ℕ → List ℕ
bytes_at contents name = unwrap_or (get contents name) []

-- the bytes from a handle's place to the end of its file
abbrev pub rest_of : Contents → Handle → List ℕ
rest_of contents handle = drop handle.place (bytes_at contents handle.name)

abbrev pub known_rest : FilesState → ℕ → Option (List ℕ)
known_rest state id = option_map (λ told. rest_of told.bytes (told.handle id)) state.told

-- every id but this one is as it was: open or not, what for, its name and its place
pub record KeepsOthers (old new : FilesState) (id : ℕ) : Type 0 where
  pub purpose : (other : ℕ) → other ≢ id → new.purpose other ≡ old.purpose other
  pub handle : (other : ℕ) → other ≢ id → IsSome (old.purpose other) → known_handle new other ≡ known_handle old other

-- every id is as it was
pub record KeepsIds (old new : FilesState) : Type 0 where
  pub purpose : (id : ℕ) → new.purpose id ≡ old.purpose id
  pub handle : (id : ℕ) → IsSome (old.purpose id) → known_handle new id ≡ known_handle old id

abbrev pub moved_by : ℕ → Handle → Handle
moved_by count handle = record { name = handle.name; place = handle.place + count }

-- the id gave these bytes, its next ones, and all else is as it was but for the counts
pub record Gives (old new : FilesState) (id : ℕ) (bytes : List ℕ) : Type 0 where
  pub contents : known_bytes new ≡ known_bytes old
  pub purpose : (other : ℕ) → new.purpose other ≡ old.purpose other
  pub others : (other : ℕ) → other ≢ id → IsSome (old.purpose other) → known_handle new other ≡ known_handle old other
  pub rest : known_rest old id ≡ prepend_known bytes (known_rest new id)
  pub moved : known_handle new id ≡ option_map (moved_by (length bytes)) (known_handle old id)
