-- A call of the program: its words, files and sink before and behind it, and its status.
use Rattle.std.specs.Prelude.{ℕ, List}
use Rattle.batch_io.specs.FilesState.{FilesState}
use Rattle.batch_io.specs.SinkState.{SinkState}

pub record Call : Type 0 where
  pub words : List (List ℕ)
  pub files_before : FilesState
  pub files_after : FilesState
  pub out_before : SinkState
  pub out_after : SinkState
  pub status : ℕ

abbrev pub call : List (List ℕ) → FilesState → FilesState → SinkState → SinkState → ℕ → Call
call words files_before files_after out_before out_after status = record {
  words = words;
  files_before = files_before;
  files_after = files_after;
  out_before = out_before;
  out_after = out_after;
  status = status;
}
