-- Where the end of a run stands, and runs behind files that were only read.
use Rattle.std.proofs.Common.{◌≡◌, ℕ, false, List, Option, Some, None, Result, Ok, Err, ◌⊎◌, inl, inr, refl, subst}
use Rattle.batch_io.specs.Faults.{Rose}
use Rattle.batch_io.specs.FilesState.{Contents, FilesState, known_bytes}
use Rattle.batch_io.specs.SinkState.{SinkState}
use Rattle.cob_program.specs.Act.{Program}
use Rattle.cob_interp.specs.declared.ends.Ended.{Ended}
use Rattle.cob_interp.specs.declared.ends.RunEnd.{RunEnd}
use Rattle.cob_interp.specs.declared.ends.RunEnd.TheVariants as end
use Rattle.cob_interp.specs.Ends.{told_files, IsEnd}
use Rattle.cob_interp.specs.Runs.{Outside, outside, IfTold, CountsOn, EndsRunIf, EndsWell, EndsBy, IsBroken, IfRefused, KeepsUnmade, Runs}
use Rattle.cob_interp.proofs.ClosingHandles.{broken_from}
use Rattle.cob_interp.proofs.Passing.{ids_pass}
use Rattle.command_words.specs.Commands.{Run, IsCommand}
use Rattle.command_words.specs.Commands as command
use Rattle.commands.specs.Steps.{Reads}
use Rattle.commands.specs.Runs.{Task, HoldsTask, AsksFor, RunsTo}

module _ (p : Program) (paths : List (List ℕ)) (budget : ℕ) where
  -- ---- its own end, or a refusal by the outside or memory

  abbrev pub IsRefusal : Result Ended RunEnd → Type 0
  IsRefusal result = (result ≡ Err end.ReadFault) ⊎ (result ≡ Err end.WriteFault) ⊎ (result ≡ Err end.Memory)

  abbrev pub EndsSomewhere : Contents → Result Ended RunEnd → Type 0
  EndsSomewhere first result = (n : ℕ) × IsEnd p (told_files first paths) budget result n

  told_end : (a b : Option Contents) (sink new_sink : SinkState) (first : Contents) (result : Result Ended RunEnd)
      → a ≡ Some first → EndsRunIf p paths budget a b sink new_sink result → EndsSomewhere first result
  told_end None b sink new_sink first result e h = cc
  told_end (Some other) None sink new_sink first result e h = absurd h
  told_end (Some other) (Some told) sink new_sink first result e h =
      let same : other ≡ first = cc in
      subst (λ (c : Contents). EndsSomewhere c result) same (h.steps, h.answer)

  module _ (old new : Outside) (first : Contents) (known : known_bytes old.files ≡ Some first) where
    own_end : (result : Result Ended RunEnd) → EndsWell p paths budget old new result → EndsSomewhere first result
    own_end result h =
        told_end (known_bytes old.files) (known_bytes new.files) old.sink new.sink first result known h.run

    comes_to : (result : Result Ended RunEnd) → EndsBy (EndsWell p paths budget) old new result
        → IsRefusal result ⊎ EndsSomewhere first result
    comes_to (Err end.ReadFault) h = inl (inl refl)
    comes_to (Err end.WriteFault) h = inl (inr (inl refl))
    comes_to (Err end.Memory) h = inl (inr (inr refl))
    comes_to (Ok e) h = inr (own_end (Ok e) h)
    comes_to (Err (end.Ragged file count)) h = inr (own_end (Err (end.Ragged file count)) h)
    comes_to (Err (end.StepsSpent count)) h = inr (own_end (Err (end.StepsSpent count)) h)
    comes_to (Err (end.IoStop status statement)) h = inr (own_end (Err (end.IoStop status statement)) h)
    comes_to (Err (end.Fault kind statement step)) h = inr (own_end (Err (end.Fault kind statement step)) h)

    pub refused_or_ends : (result : Result Ended RunEnd) → Runs p paths budget old new result
        → IsRefusal result ⊎ EndsSomewhere first result
    refused_or_ends result h = comes_to result h.ends

  -- ---- files that were only read before

  module _ (before middle : FilesState) (sink : SinkState) (new : Outside) (reads : Reads before middle false) where
    same_reading : middle.reading ≡ before.reading
    same_reading = reads.reading.kept refl

    broken_on : (result : Result Ended RunEnd) → IsBroken p paths budget (outside middle sink) new result
        → IsBroken p paths budget (outside before sink) new result
    broken_on result h =
        broken_from p paths budget before middle sink new result reads.contents same_reading reads.writing h

    well_on : (result : Result Ended RunEnd) → EndsWell p paths budget (outside middle sink) new result
        → EndsWell p paths budget (outside before sink) new result
    well_on result h = record {
      reading = subst (λ (n : ℕ). CountsOn result n new.files.reading) same_reading h.reading;
      writing = subst (λ (n : ℕ). CountsOn result n new.files.writing) reads.writing h.writing;
      faults = h.faults;
      run = subst (λ (k : Option Contents). EndsRunIf p paths budget k (known_bytes new.files) sink new.sink result)
          reads.contents h.run;
    }

    ends_on : (result : Result Ended RunEnd)
        → EndsBy (EndsWell p paths budget) (outside middle sink) new result
        → EndsBy (EndsWell p paths budget) (outside before sink) new result
    ends_on (Err end.ReadFault) h = subst (λ (n : ℕ). Rose n new.files.reading) same_reading h
    ends_on (Err end.WriteFault) (inl h) = inl (subst (λ (n : ℕ). Rose n new.files.writing) reads.writing h)
    ends_on (Err end.WriteFault) (inr h) = inr h
    ends_on (Err end.Memory) h = tt
    ends_on (Ok e) h = well_on (Ok e) h
    ends_on (Err (end.Ragged file count)) h = well_on (Err (end.Ragged file count)) h
    ends_on (Err (end.StepsSpent count)) h = well_on (Err (end.StepsSpent count)) h
    ends_on (Err (end.IoStop status statement)) h = well_on (Err (end.IoStop status statement)) h
    ends_on (Err (end.Fault kind statement step)) h = well_on (Err (end.Fault kind statement step)) h

    refused_on : (result : Result Ended RunEnd)
        → IfRefused result (IsBroken p paths budget (outside middle sink) new result)
        → IfRefused result (IsBroken p paths budget (outside before sink) new result)
    refused_on (Err end.ReadFault) h = broken_on (Err end.ReadFault) h
    refused_on (Err end.WriteFault) h = broken_on (Err end.WriteFault) h
    refused_on (Err end.Memory) h = broken_on (Err end.Memory) h
    refused_on (Ok e) h = tt
    refused_on (Err (end.Ragged file count)) h = tt
    refused_on (Err (end.StepsSpent count)) h = tt
    refused_on (Err (end.IoStop status statement)) h = tt
    refused_on (Err (end.Fault kind statement step)) h = tt

    runs_on : (result : Result Ended RunEnd) → Runs p paths budget (outside middle sink) new result
        → Runs p paths budget (outside before sink) new result
    runs_on result h = record { ends = ends_on result h.ends; part = refused_on result h.part }

-- a task's run behind files that were only read
pub runs_behind : (t : Task) (before middle : FilesState) (sink : SinkState) (new : Outside)
    (result : Result Ended RunEnd) (status : ℕ) → Reads before middle false → RunsTo t (outside middle sink) new result status
    → RunsTo t (outside before sink) new result status
runs_behind t before middle sink new result status reads h = record {
  middle = h.middle;
  refused = h.refused;
  runs = runs_on t.program t.paths t.steps before middle sink (outside new.files h.middle) reads result h.runs;
  ids = ids_pass before middle new.files reads.ids h.ids;
  unmade = subst
      (λ (k : Option Contents). IfTold (λ first told. KeepsUnmade t.program t.paths first told) k (known_bytes new.files))
      reads.contents h.unmade;
  sink = h.sink;
  told = h.told;
}

pub asks_for : (known : Option Contents) (words : List (List ℕ)) (r : Run) (t : Task)
    → IsCommand words (command.run r) → HoldsTask known r t
    → AsksFor known words t
asks_for known words r t said holds = record { run = r; said = said; holds = holds }
