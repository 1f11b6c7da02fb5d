-- What `run` is asked for and what it answers where nothing is run, what a run does, and how its end is told.
use Rattle.std.specs.Prelude.{◌≡◌, ◌⊎◌, ℕ, Bool, true, false, List, Option, Some, IfSome, Result, Ok, Err, None, IsSomeAnd}
use Rattle.std.specs.FinMap.{get}
use Rattle.batch_io.specs.FilesState.{Contents, KeepsIds, known_bytes}
use Rattle.batch_io.specs.SinkState.{SinkState}
use Rattle.cob_data.specs.declared.layout.FileDecl.{FileDecl}
use Rattle.cob_program.specs.Act.{Program}
use Rattle.cob_graph.specs.declared.graph.Graph.{Graph}
use Rattle.cob_interp.specs.declared.ends.Ended.{Ended}
use Rattle.cob_interp.specs.declared.ends.RunEnd.{RunEnd}
use Rattle.cob_interp.specs.declared.ends.RunEnd.TheVariants as end
use Rattle.cob_interp.specs.Runs.{Outside, outside, IfTold, KeepsUnmade, Runs, TellsOfSink}
use Rattle.command_words.specs.Commands.{Run, IsCommand}
use Rattle.command_words.specs.Commands as command
use Rattle.commands.specs.Paths.{paths_of}
use Rattle.commands.specs.Text.{memory_line}
use Rattle.commands.specs.Showing.{ShowsRefusal}
use Rattle.commands.specs.Profile.{IsProgramOf, IsOfProfile, IsProfileCause}
use Rattle.commands.specs.Answer.{Answer, Usage, Absent, Refused}
use Rattle.commands.specs.RunText.{run_text}

-- ---- what is asked for

-- a program with its graph, the paths of its files, and the budget of steps
pub record Task : Type 0 where
  pub program : Program
  pub graph : Graph
  pub paths : List (List ℕ)
  pub steps : ℕ

abbrev pub task : Program → Graph → List (List ℕ) → ℕ → Task
task program graph paths steps = record { program = program; graph = graph; paths = paths; steps = steps }

-- The bytes are a source of the task's program; the words on files give its files their paths.
pub record Makes (bytes : List ℕ) (r : Run) (t : Task) : Type 0 where
  pub is_program : IsProgramOf bytes t.program t.graph
  pub paths_are : paths_of t.program.layout.files r.names ≡ Ok t.paths
  pub steps_are : t.steps ≡ r.steps

-- the source's file holds bytes that make the task
pub record HoldsTask (known : Option Contents) (r : Run) (t : Task) : Type 0 where
  pub bytes : List ℕ
  pub held : IfSome known (λ contents. get contents r.source ≡ Some bytes)
  pub makes : Makes bytes r t

-- the words ask for the task
pub record AsksFor (known : Option Contents) (words : List (List ℕ)) (t : Task) : Type 0 where
  pub run : Run
  pub said : IsCommand words (command.run run)
  pub holds : HoldsTask known run t

-- The bytes are of the profile, but the words on files don't give the program's files paths, for which this word or
-- external name is to blame.
pub record BlamesWord (bytes : List ℕ) (names : List (List ℕ)) (word : List ℕ) : Type 0 where
  pub profile : IsOfProfile bytes
  pub blamed : paths_of profile.program.layout.files names ≡ Err word

-- ---- the answer where nothing is run

-- a refusal of the source, or of the words on files
abbrev pub AnswersRun : Contents → Run → Answer → Type 0
AnswersRun contents r (Absent name) = (get contents r.source ≡ None) × (name ≡ r.source)
AnswersRun contents r (Refused cause) = IsSomeAnd (get contents r.source) (λ bytes. IsProfileCause bytes cause)
AnswersRun contents r (Usage word) = IsSomeAnd (get contents r.source) (λ bytes. BlamesWord bytes r.names word)
AnswersRun contents r _ = ⊥

-- Where it is that of words, a word on files is to blame, on some source of the profile.
abbrev pub BlamesIfUsage : Run → Answer → Type 0
BlamesIfUsage r (Usage word) = (bytes : List ℕ) × BlamesWord bytes r.names word
BlamesIfUsage r _ = Unit {0}

-- ---- how its end is told

abbrev pub run_status : RunEnd → ℕ
run_status end.ReadFault = 5
run_status end.WriteFault = 6
run_status (end.Ragged file count) = 12
run_status (end.StepsSpent count) = 10
run_status (end.IoStop status statement) = 11
run_status (end.Fault kind statement step) = 1
run_status end.Memory = 8

-- The end is told by its line, or by that of want of memory where the line can't be made.
abbrev pub ShowsEnd : List FileDecl → SinkState → SinkState → RunEnd → ℕ → Type 0
ShowsEnd files old new e status =
    ShowsRefusal old new (run_text files e) (run_status e) status ⊎ ShowsRefusal old new memory_line 8 status

-- Nothing more is shown where the run came to its end, or where the sink refused the run's text.
abbrev pub TellsEnd : List FileDecl → SinkState → SinkState → Result Ended RunEnd → Bool → ℕ → Type 0
TellsEnd files old new (Ok e) refused status = (status ≡ 0) × (new ≡ old)
TellsEnd files old new (Err e) true status = (status ≡ run_status e) × (new ≡ old)
TellsEnd files old new (Err e) false status = ShowsEnd files old new e status

-- ---- what it does

-- From the old files and sink on the task's run came to this result, and then its end was told with this status.
pub record RunsTo (t : Task) (old new : Outside) (result : Result Ended RunEnd) (status : ℕ) : Type 0 where
  pub middle : SinkState
  pub refused : Bool
  pub runs : Runs t.program t.paths t.steps old (outside new.files middle) result
  pub ids : KeepsIds old.files new.files
  -- paths of files that no statement opens for output hold what they held
  pub unmade : IfTold (λ first told. KeepsUnmade t.program t.paths first told) (known_bytes old.files) (known_bytes new.files)
  pub sink : TellsOfSink old.sink middle (record { end = result; sink_refused = refused })
  pub told : TellsEnd t.program.layout.files middle new.sink result refused status
