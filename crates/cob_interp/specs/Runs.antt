-- What a run answers, and what it leaves in the outside's files and sink.
use Rattle.std.specs.Prelude.{◌≡◌, ◌≤◌, ◌<◌, ◌⊎◌, ℕ, Bool, true, false, IfErr, List, take, length, slice_get, Option, Some, None, Result, Ok, Err}
use Rattle.std.specs.Option.{option_map_or}
use Rattle.std.specs.Io.KnownBytes.{append_known}
use Rattle.std.specs.FinMap.{get}
use Rattle.batch_io.specs.Faults.{Rose}
use Rattle.batch_io.specs.FilesState.{Contents, FilesState, known_bytes}
use Rattle.batch_io.specs.SinkState.{SinkState}
use Rattle.cob_program.specs.Act.{Act, Program}
use Rattle.cob_runs.specs.Files.{File}
use Rattle.cob_runs.specs.State.{State}
use Rattle.cob_runs.specs.Effects.{act_at}
use Rattle.cob_graph_laws.specs.Ways.{next_statement}
use Rattle.cob_graph_laws.specs.Kept.{NeverMakes}
use Rattle.cob_interp.specs.declared.ends.Ended.{Ended}
use Rattle.cob_interp.specs.declared.ends.Ending.{Ending}
use Rattle.cob_interp.specs.declared.ends.RunEnd.{RunEnd}
use Rattle.cob_interp.specs.declared.ends.RunEnd.TheVariants as end
use Rattle.cob_interp.specs.Ends.{told_files, AreFree, IsEnd, state_after}
use Rattle.cob_interp.specs.Told.{KeepsNames, Holds}
use Rattle.cob_interp.specs.Touching.{IsPartOf, IsShort, makes_by}
use Rattle.cob_interp.specs.Meeting.{IsMetBy, IfFailed}
use Rattle.cob_interp.specs.Reached.{up_to, last_of}
use Rattle.cob_interp.specs.Readying.{IsFirst}
use Rattle.cob_interp.specs.Tracking.{purpose_by, purpose_in}

-- ---- the outside, and why a run ends

-- the files and the sink as a call finds them
pub record Outside : Type 0 where
  pub files : FilesState
  pub sink : SinkState

abbrev pub outside : FilesState → SinkState → Outside
outside files sink = record { files = files; sink = sink }

-- a fact of the first contents and of those behind them, where contents are told
abbrev pub IfTold : (Contents → Contents → Type 0) → Option Contents → Option Contents → Type 0
IfTold IsIt (Some first) (Some told) = IsIt first told
IfTold IsIt (Some first) None = ⊥
IfTold IsIt None told = Unit {0}

abbrev pub RoseReading : Outside → Outside → Type 0
RoseReading old new = Rose old.files.reading new.files.reading

abbrev pub RoseWriting : Outside → Outside → Type 0
RoseWriting old new = Rose old.files.writing new.files.writing ⊎ Rose old.sink.faults new.sink.faults

-- some file that is being written holds fewer bytes than it has behind the run
pub record HasShort (paths : List (List ℕ)) (files : List File) (told : Contents) : Type 0 where
  pub place : ℕ
  pub path : List ℕ
  pub file : File
  pub at : slice_get paths place ≡ Some path
  pub has : slice_get files place ≡ Some file
  pub short : IsShort file (get told path)

-- the run came to its end
abbrev pub HasEnded : Result Ended RunEnd → Type 0
HasEnded own = (e : Ended) × (own ≡ Ok e)

-- the file at a place is open, to be written or to be read
abbrev pub IsOpenAt : List File → ℕ → Bool → Type 0
IsOpenAt files place writes =
    (f : File) × (slice_get files place ≡ Some f) × (purpose_in f.mode ≡ Some (purpose_by writes))

-- The run came to its end. Of the files that are open then, which are closed in their order, this fault is the first.
abbrev pub ByClose : FilesState → FilesState → Result Ended RunEnd → Result Ended RunEnd → List File → Type 0
ByClose old new result own files = HasEnded own × IfErr result (λ e. IsFirst (IsOpenAt files) old new e)

-- no close is told
abbrev pub NoClose : Result Ended RunEnd → List File → Type 0
NoClose own files = ⊥

-- A count of faults stays where the run came to its end. Behind another end of its own a close may have been refused.
abbrev pub CountsOn : Result Ended RunEnd → ℕ → ℕ → Type 0
CountsOn (Ok e) old new = new ≡ old
CountsOn (Err e) old new = old ≤ new

-- The sink refused text, which its count shows, or memory ran out: a front of the text is shown.
pub record ShowsFront (old new : SinkState) (result : Result Ended RunEnd) (text : List ℕ) : Type 0 where
  pub why : (result ≡ Err end.Memory) ⊎ Rose old.faults new.faults
  pub front : (n : ℕ) × (new.told ≡ append_known old.told (take n text))

-- the next statement opens the file at a place for output, among so many files that it has come to
abbrev pub makes_next : Program → State → ℕ → ℕ → Bool
makes_next p s reached place = option_map_or (λ a. makes_by (up_to reached a) place) (act_at p (next_statement p s.control)) false

-- the next statement may meet the fault at the last of so many files that it has come to
pub record IsMetNext (p : Program) (s : State) (reached : ℕ) (result : Result Ended RunEnd) : Type 0 where
  pub act : Act
  pub next : act_at p (next_statement p s.control) ≡ Some act
  pub met : IsMetBy (last_of reached act) result

-- a refusal by the outside, or for want of memory
abbrev pub IfRefused : Result Ended RunEnd → Type 0 → Type 0
IfRefused (Err end.ReadFault) P = P
IfRefused (Err end.WriteFault) P = P
IfRefused (Err end.Memory) P = P
IfRefused result P = Unit {0}

-- Why the run was refused: a fault of the outside, which its count shows. Of want of memory nothing is said. Any
-- other answer is the run's own end.
abbrev pub EndsBy : (Outside → Outside → Result Ended RunEnd → Type 0) → Outside → Outside → Result Ended RunEnd
    → Type 0
EndsBy own old new (Err end.ReadFault) = RoseReading old new
EndsBy own old new (Err end.WriteFault) = RoseWriting old new
EndsBy own old new (Err end.Memory) = Unit {0}
EndsBy own old new result = own old new result

module _ (p : Program) (paths : List (List ℕ)) (budget : ℕ) where
  -- the answer is the run's, and the outside's files and sink hold what it has written and shown
  pub record EndsRun (first told : Contents) (sink_before sink_after : SinkState)
      (result : Result Ended RunEnd) : Type 0 where
    pub steps : ℕ
    pub answer : IsEnd p (told_files first paths) budget result steps
    pub holds : Holds first told paths (state_after p (told_files first paths) steps).world.files
    pub shows : sink_after.told ≡ append_known sink_before.told
        (state_after p (told_files first paths) steps).world.shown

  abbrev pub EndsRunIf : Option Contents → Option Contents → SinkState → SinkState → Result Ended RunEnd → Type 0
  EndsRunIf a b sink_before sink_after result =
      IfTold (λ first told. EndsRun first told sink_before sink_after result) a b

  -- the run's own end: no fault of the outside was met before it
  pub record EndsWell (old new : Outside) (result : Result Ended RunEnd) : Type 0 where
    pub reading : CountsOn result old.files.reading new.files.reading
    pub writing : CountsOn result old.files.writing new.files.writing
    pub faults : new.sink.faults ≡ old.sink.faults
    pub run : EndsRunIf (known_bytes old.files) (known_bytes new.files) old.sink new.sink result

  -- which closes are told behind the run's own end
  module _ (Closes : Result Ended RunEnd → List File → Type 0) where
    -- The run's own end comes behind so many steps: each file holds what it holds there, or a front of it. A fault is told
    -- there by a close, or where a write of what waited was refused: then some file holds less.
    pub record IsOver (first told : Contents) (steps : ℕ) (result : Result Ended RunEnd) : Type 0 where
      pub own : Result Ended RunEnd
      pub ends : IsEnd p (told_files first paths) budget own steps
      pub files : (place : ℕ) (path : List ℕ) (f : File) → slice_get paths place ≡ Some path
          → slice_get (state_after p (told_files first paths) steps).world.files place ≡ Some f
          → IsPartOf false f f.content (get told path)
      pub why : Closes own (state_after p (told_files first paths) steps).world.files ⊎ ((result ≡ Err end.WriteFault)
          × HasShort paths (state_after p (told_files first paths) steps).world.files told)

    -- The run was broken off behind so many steps, or in the next one: each file holds what it holds there, or a part
    -- of it; what is shown is all that is shown there, unless the sink refused it or memory ran out. A fault of files was
    -- met by the next statement, in an OPEN at the last file to which it came, or behind the run's own end. No file that
    -- stands behind that one in the statement is made anew.
    pub record BreaksOff (first told : Contents) (sink_before sink_after : SinkState) (result : Result Ended RunEnd)
        : Type 0 where
      pub steps : ℕ
      pub within : steps ≤ budget
      pub free : AreFree p (told_files first paths) steps
      pub reached : ℕ
      pub files : (place : ℕ) (path : List ℕ) (f : File) → slice_get paths place ≡ Some path
          → slice_get (state_after p (told_files first paths) steps).world.files place ≡ Some f
          → IsPartOf (makes_next p (state_after p (told_files first paths) steps) reached place) f f.content (get told path)
      pub others : KeepsNames first told paths
      pub shows : (sink_after.told ≡ append_known sink_before.told
          (state_after p (told_files first paths) steps).world.shown)
          ⊎ ShowsFront sink_before sink_after result (state_after p (told_files first paths) steps).world.shown
      pub meets : IfFailed result (IsOver first told steps result
          ⊎ (Rose sink_before.faults sink_after.faults
          ⊎ IsMetNext p (state_after p (told_files first paths) steps) reached result))

    abbrev pub IsBrokenBy : Outside → Outside → Result Ended RunEnd → Type 0
    IsBrokenBy start now result =
        IfTold (λ first told. BreaksOff first told start.sink now.sink result) (known_bytes start.files)
        (known_bytes now.files)

  abbrev pub IsBroken : Outside → Outside → Result Ended RunEnd → Type 0
  IsBroken start now result = IsBrokenBy (ByClose start.files now.files result) start now result

  -- before files are closed behind the run
  abbrev pub IsBrokenBefore : Outside → Outside → Result Ended RunEnd → Type 0
  IsBrokenBefore start now result = IsBrokenBy NoClose start now result

  -- how a run ended, and what is left where it was refused
  pub record Runs (old new : Outside) (result : Result Ended RunEnd) : Type 0 where
    pub ends : EndsBy EndsWell old new result
    pub part : IfRefused result (IsBroken old new result)

  -- how it was refused before files are closed behind it
  pub record RunsBefore (old new : Outside) (result : Result Ended RunEnd) : Type 0 where
    pub ends : EndsBy EndsWell old new result
    pub part : IfRefused result (IsBrokenBefore old new result)

-- ---- files that are never made

-- paths of files that no statement opens for output hold what they held
abbrev pub KeepsUnmade : Program → List (List ℕ) → Contents → Contents → Type 0
KeepsUnmade p paths first told =
    (place : ℕ) (path : List ℕ) → slice_get paths place ≡ Some path → place < length p.layout.files
    → NeverMakes p place → get told path ≡ get first path

-- ---- the sink

-- Whether the sink refused text by a fault: then that is why the run was refused, and else it told no fault.
pub record TellsOfSink (old new : SinkState) (e : Ending) : Type 0 where
  pub kept : e.sink_refused ≡ false → new.faults ≡ old.faults
  pub refused : e.sink_refused ≡ true → (e.end ≡ Err end.WriteFault) × Rose old.faults new.faults
