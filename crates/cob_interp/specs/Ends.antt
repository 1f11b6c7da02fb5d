-- How a program's run on told files ends within a budget of steps.
use Rattle.std.specs.Prelude.{◌≡◌, ◌≤◌, ◌<◌, ◌==◌, ◌&&◌, nat_lt, ℕ, Bool, true, false, List, [], length, map, slice_get, Option, Some, Result, Ok, Err, MatchResult}
use Rattle.std.specs.Option.{option_map_or}
use Rattle.std.specs.FinMap.{get}
use Rattle.batch_io.specs.FilesState as outside
use Rattle.cob_data.specs.declared.layout.FileDecl.{FileDecl}
use Rattle.cob_program.specs.Act.{Act, read, Program}
use Rattle.cob_runs.specs.declared.outcome.Outcome.{Outcome}
use Rattle.cob_runs.specs.declared.outcome.Outcome.TheVariants.{Going, Fault, IoStop}
use Rattle.cob_runs.specs.declared.outcome.Outcome.TheVariants as outcome
use Rattle.cob_runs.specs.Files.{File, Mode, closed, reading, bytes_in, after_read}
use Rattle.cob_runs.specs.State.{World, State}
use Rattle.cob_runs.specs.Effects.{act_at}
use Rattle.cob_runs.specs.Runs.{Contents, run}
use Rattle.cob_graph_laws.specs.Ways.{next_statement}
use Rattle.cob_interp.specs.declared.ends.Ended.{Ended}
use Rattle.cob_interp.specs.declared.ends.RunEnd.{RunEnd}
use Rattle.cob_interp.specs.declared.ends.RunEnd.TheVariants as end

-- what the files of a program hold where each has the path at its place
abbrev pub told_files : outside.Contents → List (List ℕ) → Contents
told_files told paths = map (get told) paths

-- ---- files that end within a record

-- A file in this mode is read, and its end wasn't met.
abbrev pub reads_on : Mode → Bool
reads_on (reading false) = true
reads_on _ = false

-- a READ of the file would end at status 10, with bytes left that make no record
abbrev pub is_cut : FileDecl → File → Bool
is_cut d f = (after_read d.length f).status == 10 && nat_lt f.place (length (bytes_in f))

abbrev pub cut_file : Option FileDecl → Option File → Bool
cut_file (Some d) (Some f) = is_cut d f
cut_file d f = false

abbrev pub is_closed : Mode → Bool
is_closed closed = true
is_closed _ = false

-- a fact of a run's end, where neither the outside nor memory refused it
abbrev pub IfOwn : RunEnd → Type 0 → Type 0
IfOwn end.ReadFault P = Unit {0}
IfOwn end.WriteFault P = Unit {0}
IfOwn end.Memory P = Unit {0}
IfOwn _ P = P

abbrev pub UnlessRefused : {A : Type 0} → Result A RunEnd → Type 0 → Type 0
UnlessRefused result P = MatchResult result (λ _. P) (λ e. IfOwn e P)

module _ (p : Program) where
  abbrev pub cut_by : Act → World → ℕ → Bool
  cut_by (read f into end fine) w file = f == file && cut_file (slice_get p.layout.files f) (slice_get w.files f)
  cut_by _ w file = false

  -- the next statement is a READ that meets the file's ragged end
  abbrev pub meets_cut : ℕ → World → ℕ → Bool
  meets_cut statement w file = option_map_or (λ a. cut_by a w file) (act_at p statement) false

  -- No ragged end stops the next step.
  abbrev pub IsFree : State → Type 0
  IsFree s = (file : ℕ) → meets_cut (next_statement p s.control) s.world file ≡ false

  -- ---- ends

  module _ (contents : Contents) where
    abbrev pub state_after : ℕ → State
    state_after n = run p contents [] [] n

    -- None of the first so many steps was refused before it began.
    abbrev pub AreFree : ℕ → Type 0
    AreFree n = (m : ℕ) → m < n → IsFree (state_after m)

    module _ (budget : ℕ) where
      -- the run is over after so many steps, with this outcome
      pub record EndsAfter (n : ℕ) (o : Outcome) : Type 0 where
        pub within : n ≤ budget
        pub outcome : (state_after n).outcome ≡ o
        pub before : (m : ℕ) → m < n → (state_after m).outcome ≡ Going
        pub free : AreFree n

      -- The run goes on behind the budget.
      pub record IsSpent : Type 0 where
        pub outcome : (state_after budget).outcome ≡ Going
        pub free : AreFree budget

      -- the step behind so many is stopped
      pub record IsStopped (n : ℕ) (Stops : ℕ → World → Type 0) : Type 0 where
        pub within : n < budget
        pub outcome : (state_after n).outcome ≡ Going
        pub free : AreFree n
        pub stops : Stops (next_statement p (state_after n).control) (state_after n).world

      -- the file ends within a record, and has so many bytes
      pub record IsCutAt (file count statement : ℕ) (w : World) : Type 0 where
        pub cut : meets_cut statement w file ≡ true
        pub counted : count ≡ option_map_or (λ f. length (bytes_in f)) (slice_get w.files file) 0

      -- What each answer says, behind so many steps. Faults of the outside and want of memory have clauses of their
      -- own.
      abbrev pub IsEnd : Result Ended RunEnd → ℕ → Type 0
      IsEnd (Ok e) n = (e.steps ≡ n) × EndsAfter n outcome.Ended
      IsEnd (Err (end.StepsSpent count)) n = (count ≡ budget) × ((n ≡ budget) × IsSpent)
      IsEnd (Err (end.IoStop status statement)) n = EndsAfter n (IoStop status statement)
      IsEnd (Err (end.Fault kind statement step)) n = (step ≡ n) × EndsAfter n (Fault kind statement)
      IsEnd (Err (end.Ragged file count)) n = IsStopped n (IsCutAt file count)
      IsEnd (Err end.ReadFault) n = ⊥
      IsEnd (Err end.WriteFault) n = ⊥
      IsEnd (Err end.Memory) n = ⊥
