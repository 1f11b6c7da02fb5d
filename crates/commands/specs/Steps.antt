-- What the parts that all commands share do.
use Rattle.std.specs.Prelude.{◌≡◌, ℕ, ◌⊎◌, Bool, true, false, List, Option, Some, IfSome, Result, Ok, Err}
use Rattle.std.specs.FinMap.{get}
use Rattle.batch_io.specs.Faults.{Counts}
use Rattle.batch_io.specs.FilesState.{Contents, FilesState, KeepsIds, known_bytes}
use Rattle.batch_io.specs.SinkState.{SinkState}
use Rattle.cob_program.specs.ActView.{plain_program}
use Rattle.cob_front.specs.declared.refusal.Refusal.{Refusal}
use Rattle.cob_front.specs.declared.refusal.Refusal.TheVariants as end
use Rattle.commands.specs.declared.answer.Stop.{Stop}
use Rattle.commands.specs.declared.answer.Stop.TheVariants.{ReadFault, Memory}
use Rattle.commands.specs.declared.source.Laid.{Laid}
use Rattle.commands.specs.Text.{memory_line, read_fault_line}
use Rattle.commands.specs.Showing.{ShowsIfMemory, ShowsRefusal}
use Rattle.commands.specs.Profile.{IsProgramOf}
use Rattle.commands.specs.Answer.{Answer, Refused, answer_text, status_of, status_unwritten}

abbrev pub stopped_by_fault : {X : Type 0} → Result X Stop → Bool
stopped_by_fault (Ok x) = false
stopped_by_fault (Err ReadFault) = true
stopped_by_fault (Err Memory) = false

-- A fault refuses what was to be done in place of an answer.
abbrev pub refused_by_fault : {X A : Type 0} → Result X (Result A Stop) → Bool
refused_by_fault (Ok x) = false
refused_by_fault (Err found) = stopped_by_fault found

-- Files are read and left as they were; the reading count rises where a read fault is told, and else stays.
pub record Reads (old new : FilesState) (failed : Bool) : Type 0 where
  pub contents : known_bytes new ≡ known_bytes old
  pub ids : KeepsIds old new
  pub writing : new.writing ≡ old.writing
  pub reading : Counts failed old.reading new.reading

-- ---- reading the source

-- a program of the profile of which the bytes are a source, and its graph
abbrev pub IsLaid : List ℕ → Laid → Type 0
IsLaid bytes laid = IsProgramOf bytes (plain_program laid.program) laid.graph

-- the bytes of some source
abbrev pub IsOfSource : Laid → Type 0
IsOfSource laid = (bytes : List ℕ) × IsLaid bytes laid

-- the source's file holds bytes of what was laid
pub record HoldsLaid (known : Option Contents) (name : List ℕ) (laid : Laid) : Type 0 where
  pub bytes : List ℕ
  pub held : IfSome known (λ contents. get contents name ≡ Some bytes)
  pub is_laid : IsLaid bytes laid

-- the answer that says why a source isn't read, or want of memory
abbrev pub answer_to : Refusal → Result Answer Stop
answer_to end.Memory = Err Memory
answer_to cause = Ok (Refused cause)

-- ---- what is shown

-- an answer: its status, or 8 where memory ran out, in its place the line of that where its text can't be made
abbrev pub ShowsAnswer : SinkState → SinkState → Answer → ℕ → Type 0
ShowsAnswer old new answer status =
    ShowsIfMemory old new (answer_text answer) (status_of answer) (status_unwritten answer) status
    ⊎ ShowsRefusal old new memory_line 8 status

-- what is found: an answer, or why there is none
abbrev pub ShowsFound : SinkState → SinkState → Result Answer Stop → ℕ → Type 0
ShowsFound old new (Ok answer) status = ShowsAnswer old new answer status
ShowsFound old new (Err ReadFault) status = ShowsRefusal old new read_fault_line 5 status
ShowsFound old new (Err Memory) status = ShowsRefusal old new memory_line 8 status
