-- What the calls on whole files and whole texts do.
use Rattle.std.specs.Prelude.{◌≡◌, ◌≢◌, ◌↔◌, ◌⊎◌, ℕ, ◌+◌, ◌<◌, ◌≤◌, List, [], ◌∷◌, take, length, None, Some, IfSome, IsSomeAnd, Result, Ok, Err, is_err, IfOk, OnOk, OnErr, option_map, Vec}
use Rattle.std.specs.declared.alloc.Global.{Global}
use Rattle.std.specs.FinMap.{get, insert}
use Rattle.std.specs.Io.KnownBytes.{append_known}
use Rattle.batch_io.specs.declared.ends.Failed.{Failed}
use Rattle.batch_io.specs.declared.ends.MakeEnd.{MakeEnd}
use Rattle.batch_io.specs.declared.ends.ReadEnd.{ReadEnd}
use Rattle.batch_io.specs.declared.ends.FileEnd.{FileEnd}
use Rattle.batch_io.specs.declared.ends.ReadEnd.TheVariants as reads
use Rattle.batch_io.specs.declared.ends.FileEnd.TheVariants as file
use Rattle.batch_io.specs.Faults.{Counts, read_failed, file_failed, make_failed}
use Rattle.batch_io.specs.FilesState.{Contents, FilesState, Told, known_bytes, known_rest, Gives, KeepsIds, KeepsOthers}
use Rattle.batch_io.specs.FilesCalls.{with_piece}
use Rattle.batch_io.specs.SinkState.{SinkState}

-- the bytes that the call read from the id, whatever it answers
pub record ReadSoFar (old new : FilesState) (id limit : ℕ) (result : Result (Vec ℕ Global) ReadEnd) (bytes : List ℕ) : Type 0 where
  pub gives : Gives old new id bytes
  pub most : length bytes ≤ limit + 1
  pub long : (result ≡ Err reads.Long) ↔ (length bytes ≡ limit + 1)
  pub all : IfOk result (λ v. v.items ≡ bytes)

pub record ReadsWhole (old new : FilesState) (id limit : ℕ) (result : Result (Vec ℕ Global) ReadEnd) : Type 0 where
  pub reading : Counts (read_failed result) old.reading new.reading
  pub writing : new.writing ≡ old.writing
  pub read : (bytes : List ℕ) × ReadSoFar old new id limit result bytes
  pub ended : OnOk result (IfSome (known_rest new id) (λ rest. rest ≡ []))

-- The id's next bytes stand at the front of the buffer: as many as fit, or those to the end of the file. Where a read is
-- refused, some were read.
pub record ReadsRecord (old new : FilesState) (id : ℕ) (buffer : List ℕ) (result : Result ℕ Failed) : Type 0 where
  pub reading : Counts (is_err result) old.reading new.reading
  pub writing : new.writing ≡ old.writing
  pub count : IfOk result (λ count. count ≤ length buffer)
  pub given : IfOk result (λ count. Gives old new id (take count buffer))
  pub ended : IfOk result (λ count. count < length buffer → IfSome (known_rest new id) (λ rest. rest ≡ []))
  pub refused : OnErr result ((bytes : List ℕ) × Gives old new id bytes)

-- what a read and the close after it come to: a refused close is Failed, whatever was read
abbrev pub end_after : {X : Type 0} → Result X ReadEnd → Result Unit Failed → Result X FileEnd
end_after whole (Err refused) = Err file.Failed
end_after (Ok v) (Ok closed) = Ok v
end_after (Err reads.Failed) (Ok closed) = Err file.Failed
end_after (Err reads.Long) (Ok closed) = Err file.Long
end_after (Err reads.Memory) (Ok closed) = Err file.Memory

-- an open file that is read from its place to its end and closed
pub record ReadsToClose (old new : FilesState) (id limit : ℕ) (result : Result (Vec ℕ Global) FileEnd) : Type 0 where
  pub bytes : known_bytes new ≡ known_bytes old
  pub reading : Counts (file_failed result) old.reading new.reading
  pub writing : new.writing ≡ old.writing
  pub ok : IfOk result (λ v. (length v.items ≤ limit) × IfSome (known_rest old id) (λ rest. rest ≡ v.items))
  pub present : result ≢ Err file.Absent
  pub long : result ≡ Err file.Long → IfSome (known_rest old id) (λ rest. limit < length rest)
  pub closed : new.purpose id ≡ None
  pub others : KeepsOthers old new id

-- a file that is opened by its name, read whole and closed again
pub record ReadsFile (old new : FilesState) (name : List ℕ) (limit : ℕ) (result : Result (Vec ℕ Global) FileEnd) : Type 0 where
  pub bytes : known_bytes new ≡ known_bytes old
  pub reading : Counts (file_failed result) old.reading new.reading
  pub writing : new.writing ≡ old.writing
  pub ok : IfOk result (λ v. (length v.items ≤ limit) × IfSome (known_bytes old) (λ contents. get contents name ≡ Some v.items))
  pub absent : result ≡ Err file.Absent → IfSome (known_bytes old) (λ contents. get contents name ≡ None)
  pub long : result ≡ Err file.Long → IfSome (known_bytes old) (λ contents. IsSomeAnd (get contents name) (λ bytes. limit < length bytes))
  pub ids : KeepsIds old new

-- the bytes stand at the end of the id's file, and every other name is as it was. No bytes change nothing
abbrev pub with_bytes : ℕ → List ℕ → Told → Contents
with_bytes id [] told = told.bytes
with_bytes id (byte ∷ bytes) told = with_piece id (byte ∷ bytes) told

-- the id's file grew by these bytes, and every other name is as it was
abbrev pub Grows : FilesState → FilesState → ℕ → List ℕ → Type 0
Grows old new id bytes = known_bytes new ≡ option_map (with_bytes id bytes) old.told

-- all of the bytes, or where that fails fewer of them, a prefix, stand at the end of the id's file
pub record PutsWhole (old new : FilesState) (id : ℕ) (bytes : List ℕ) (result : Result Unit MakeEnd) : Type 0 where
  pub writing : Counts (make_failed result) old.writing new.writing
  pub reading : new.reading ≡ old.reading
  pub ok : OnOk result (Grows old new id bytes)
  pub err : OnErr result ((n : ℕ) × (n < length bytes) × Grows old new id (take n bytes))
  pub ids : KeepsIds old new

-- an open file to whose end the bytes, or a prefix of them, are put, and that is closed
pub record PutsToClose (old new : FilesState) (id : ℕ) (bytes : List ℕ) (result : Result Unit MakeEnd) : Type 0 where
  pub writing : Counts (make_failed result) old.writing new.writing
  pub reading : new.reading ≡ old.reading
  pub ok : OnOk result (Grows old new id bytes)
  pub err : OnErr result ((n : ℕ) × (n ≤ length bytes) × Grows old new id (take n bytes))
  pub closed : new.purpose id ≡ None
  pub others : KeepsOthers old new id

-- the name has these bytes, and every other name is as it was
abbrev pub Holds : FilesState → FilesState → List ℕ → List ℕ → Type 0
Holds old new name bytes = known_bytes new ≡ option_map (λ contents. insert contents name bytes) (known_bytes old)

-- a file that is made by its name, holds the bytes, and is closed again
pub record PutsFile (old new : FilesState) (name bytes : List ℕ) (result : Result Unit MakeEnd) : Type 0 where
  pub writing : Counts (make_failed result) old.writing new.writing
  pub reading : new.reading ≡ old.reading
  pub ok : OnOk result (Holds old new name bytes)
  pub err : OnErr result ((known_bytes new ≡ known_bytes old) ⊎ ((n : ℕ) × (n ≤ length bytes) × Holds old new name (take n bytes)))
  pub ids : KeepsIds old new

pub record ShowsWhole (old new : SinkState) (bytes : List ℕ) (result : Result Unit MakeEnd) : Type 0 where
  pub faults : Counts (make_failed result) old.faults new.faults
  pub ok : OnOk result (new.told ≡ append_known old.told bytes)
  pub err : OnErr result ((n : ℕ) × (n ≤ length bytes) × (new.told ≡ append_known old.told (take n bytes)))
