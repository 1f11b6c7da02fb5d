-- What each call of a file object does to its state.
use Rattle.std.specs.Prelude.{◌≡◌, ℕ, ◌<◌, ◌≤◌, ◌⊎◌, List, [], ◌++◌, take, length, option_map, None, Some, IsSome, IfSome, Result, Ok, Err, is_err, IfOk, OnOk, OnErr, MatchResult}
use Rattle.std.specs.FinMap.{get, insert}
use Rattle.batch_io.specs.declared.ends.Failed.{Failed}
use Rattle.batch_io.specs.declared.ends.OpenEnd.{OpenEnd}
use Rattle.batch_io.specs.declared.ends.MakeEnd.{MakeEnd}
use Rattle.batch_io.specs.declared.ends.OpenEnd.TheVariants.{Absent}
use Rattle.batch_io.specs.Faults.{Counts, open_failed, make_failed}
use Rattle.batch_io.specs.FilesState.{Contents, FilesState, Told, Purpose, Reading, Writing, known_bytes, known_handle, known_rest, bytes_at, KeepsIds, KeepsOthers, Gives}

-- the call opened this id, which was not open, for the name at its first byte
pub record OpensId (old new : FilesState) (id : ℕ) (name : List ℕ) (purpose : Purpose) : Type 0 where
  pub fresh : old.purpose id ≡ None
  pub opened : new.purpose id ≡ Some purpose
  pub handle : known_handle new id ≡ option_map (λ _. record { name = name; place = 0 }) old.told
  pub others : KeepsOthers old new id

pub record Opens (old new : FilesState) (name : List ℕ) (result : Result ℕ OpenEnd) : Type 0 where
  pub reading : Counts (open_failed result) old.reading new.reading
  pub writing : new.writing ≡ old.writing
  pub bytes : known_bytes new ≡ known_bytes old
  pub absent : result ≡ Err Absent → IfSome (known_bytes old) (λ contents. get contents name ≡ None)
  pub present : OnOk result (IfSome (known_bytes old) (λ contents. IsSome (get contents name)))
  pub ids : MatchResult result (λ id. OpensId old new id name Reading) (λ _. KeepsIds old new)

-- the name is there and empty, and every other name is as it was
abbrev pub Empties : FilesState → FilesState → List ℕ → Type 0
Empties old new name = known_bytes new ≡ option_map (λ contents. insert contents name []) (known_bytes old)

pub record Creates (old new : FilesState) (name : List ℕ) (result : Result ℕ MakeEnd) : Type 0 where
  pub writing : Counts (make_failed result) old.writing new.writing
  pub reading : new.reading ≡ old.reading
  pub emptied : OnOk result (Empties old new name)
  pub refused : OnErr result ((known_bytes new ≡ known_bytes old) ⊎ Empties old new name)
  pub ids : MatchResult result (λ id. OpensId old new id name Writing) (λ _. KeepsIds old new)

-- what `read` gives stands at the front of the buffer
pub record Reads (old new : FilesState) (id : ℕ) (buffer : List ℕ) (result : Result ℕ Failed) : Type 0 where
  pub reading : Counts (is_err result) old.reading new.reading
  pub writing : new.writing ≡ old.writing
  pub count : IfOk result (λ count. count ≤ length buffer)
  pub given : MatchResult result (λ count. Gives old new id (take count buffer)) (λ _. Gives old new id [])
  pub ended : result ≡ Ok 0 → IfSome (known_rest old id) (λ rest. rest ≡ [])

-- the piece stands at the end of the id's file, and every other name is as it was
abbrev pub with_piece : ℕ → List ℕ → Told → Contents
with_piece id piece told =
    let name = (told.handle id).name in
    insert told.bytes name (bytes_at told.bytes name ++ piece)

pub record Writes (old new : FilesState) (id : ℕ) (piece : List ℕ) (result : Result ℕ MakeEnd) : Type 0 where
  pub writing : Counts (make_failed result) old.writing new.writing
  pub reading : new.reading ≡ old.reading
  pub count : IfOk result (λ count. count ≤ length piece)
  pub progress : IfOk result (λ count. 0 < length piece → 0 < count)
  pub appended : IfOk result (λ count. known_bytes new ≡ option_map (with_piece id (take count piece)) old.told)
  pub refused : OnErr result (known_bytes new ≡ known_bytes old)
  pub ids : KeepsIds old new

pub record Closes (old new : FilesState) (id : ℕ) (result : Result Unit Failed) : Type 0 where
  pub reading : old.purpose id ≡ Some Reading → Counts (is_err result) old.reading new.reading
  pub reading_kept : old.purpose id ≡ Some Writing → new.reading ≡ old.reading
  pub writing : old.purpose id ≡ Some Writing → Counts (is_err result) old.writing new.writing
  pub writing_kept : old.purpose id ≡ Some Reading → new.writing ≡ old.writing
  pub bytes : known_bytes new ≡ known_bytes old
  pub closed : new.purpose id ≡ None
  pub others : KeepsOthers old new id
