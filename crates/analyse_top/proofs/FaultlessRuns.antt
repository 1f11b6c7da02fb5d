-- A source that is found clean isn't run into a fault.
use Rattle.std.proofs.Common.{◌≡◌, ℕ, Bool, true, false, List, [], Option, Some, Result, Ok, Err, ◌⊎◌, inl, inr, refl, sym, ◌∙◌, subst, arith}
use Rattle.std.specs.FinMap.{get}
use Rattle.std.proofs.lemmas.Option.{same_Some}
use Rattle.batch_io.specs.FilesState.{Contents, known_bytes}
use Rattle.batch_io.specs.SinkState.{SinkState}
use Rattle.cob_data.specs.declared.layout.FileDecl.{FileDecl}
use Rattle.cob_tree.specs.declared.fault.Kind.{Kind}
use Rattle.cob_program.specs.Act.{Program}
use Rattle.cob_runs.specs.Runs.{IsFaultless}
use Rattle.cob_front.specs.Laws.{OneAnswer}
use Rattle.cob_front.specs.Source.{IsSource}
use Rattle.cob_interp.specs.declared.ends.Ended.{Ended}
use Rattle.cob_interp.specs.declared.ends.RunEnd.{RunEnd}
use Rattle.cob_interp.specs.declared.ends.RunEnd.TheVariants as end
use Rattle.cob_interp.specs.Ends.{told_files, IsEnd}
use Rattle.cob_interp.specs.Runs.{outside}
use Rattle.commands.specs.declared.checking.alarms.Alarm.{Alarm}
use Rattle.command_words.specs.Commands.{Command, Run, OneReading}
use Rattle.command_words.specs.Commands as command
use Rattle.commands.specs.Answer.{Answer, Report}
use Rattle.commands.specs.Call.{Call}
use Rattle.commands.proofs.Statuses.{low_status, never_low}
use Rattle.commands.specs.Runs.{Task, HoldsTask, AsksFor, TellsEnd, run_status}
use Rattle.commands.proofs.RunEnds.{refused_or_ends}
use Rattle.analyse_top.specs.Answers.{Answers, AnswersCommand}
use Rattle.analyse_top.specs.Conclusion.{Concludes, IsClean, EndsBy, EndsByRun, EndsByAnswer, RunsClean, CleanRunsMeetNoFault}
use Rattle.analyse_top.proofs.Words.{analyse_or_run, one_run, trial_or_run}

-- ---- a status of 1 tells a fault

abbrev IsFault : Result Ended RunEnd → Type 0
IsFault result = (kind : Kind) × (statement : ℕ) × (step : ℕ) × (result ≡ Err (end.Fault kind statement step))

one_is_fault : (e : RunEnd) → run_status e ≡ 1 → IsFault (Err e)
one_is_fault end.ReadFault h = absurd (omega (arith, h))
one_is_fault end.WriteFault h = absurd (omega (arith, h))
one_is_fault (end.Ragged file count) h = absurd (omega (arith, h))
one_is_fault (end.StepsSpent count) h = absurd (omega (arith, h))
one_is_fault (end.IoStop status statement) h = absurd (omega (arith, h))
one_is_fault (end.Fault kind statement step) h = (kind, statement, step, refl)
one_is_fault end.Memory h = absurd (omega (arith, h))

told_fault : (files : List FileDecl) (old new : SinkState) (result : Result Ended RunEnd) (refused : Bool) (status : ℕ)
    → TellsEnd files old new result refused status → status ≡ 1 → IsFault result
told_fault files old new (Ok e) refused status h one = absurd (omega (arith, h.0, one))
told_fault files old new (Err e) true status h one = one_is_fault e (sym h.0 ∙ one)
told_fault files old new (Err e) false status (inl (inl (inl h))) one = one_is_fault e (sym h.0 ∙ one)
told_fault files old new (Err e) false status (inl (inl (inr h))) one = one_is_fault e (sym h.0 ∙ one)
told_fault files old new (Err e) false status (inl (inr h)) one = absurd (omega (arith, h.0, one))
told_fault files old new (Err e) false status (inr (inl (inl h))) one = absurd (omega (arith, h.0, one))
told_fault files old new (Err e) false status (inr (inl (inr h))) one = absurd (omega (arith, h.0, one))
told_fault files old new (Err e) false status (inr (inr h)) one = absurd (omega (arith, h.0, one))

no_refusal : (result : Result Ended RunEnd) → IsFault result
    → (result ≡ Err end.ReadFault) ⊎ (result ≡ Err end.WriteFault) ⊎ (result ≡ Err end.Memory) → ⊥
no_refusal result (kind, statement, step, is) (inl e) = let apart = sym is ∙ e in cc
no_refusal result (kind, statement, step, is) (inr (inl e)) = let apart = sym is ∙ e in cc
no_refusal result (kind, statement, step, is) (inr (inr e)) = let apart = sym is ∙ e in cc

-- ---- but no run of the source ends by one

module _ (law : (bytes : List ℕ) → OneAnswer bytes) where
  no_fault : (contents told : Contents) (words : List (List ℕ)) (clean : IsClean contents words) (r : Run) (t : Task)
      (kind : Kind) (statement step steps : ℕ) → get told r.source ≡ get contents clean.name → HoldsTask (Some told) r t
      → IsEnd t.program (told_files told t.paths) t.steps (Err (end.Fault kind statement step)) steps → ⊥
  no_fault contents told words clean r t kind statement step steps same holds is_end =
      let bytes : holds.bytes ≡ clean.holds.bytes =
      same_Some holds.bytes clean.holds.bytes (sym holds.held ∙ same ∙ clean.holds.held) in
      let source = subst (λ (bs : List ℕ). IsSource bs t.program) bytes holds.makes.is_program.is_source in
      let program : clean.program ≡ t.program =
      (law clean.holds.bytes).one_program clean.program t.program clean.holds.is_program.is_source source in
      let safe = subst (λ (p : Program). IsFaultless p) program clean.safe in
      safe (told_files told t.paths) [] [] steps kind statement is_end.1.outcome

  module _ (reading : OneReading) (call : Call) (runs : RunsClean call) (one : call.status ≡ 1) where
    no_report : (alarms : List Alarm) → Answers (Some runs.told) call.words (Report alarms) → ⊥
    no_report alarms (inl (none, usage)) = none (command.run runs.asked) runs.said
    no_report alarms (inr (c, said, answers)) =
        let same = reading call.words c (command.run runs.asked) said runs.said in
        subst (λ (x : Command). AnswersCommand (Some runs.told) x (Report alarms)) same answers

    by_answer : (answer : Answer) → EndsBy call answer → ⊥
    by_answer answer ends = elim ends.shows [
      | inl whole ↦
          let report = low_status answer call.status (sym whole.0) (inr one) in
          let known = subst (λ (k : Option Contents). Answers k call.words answer) runs.known ends.is_answer in
          no_report report.0 (subst (λ (a : Answer). Answers (Some runs.told) call.words a) report.1 known)
      | inr front ↦ never_low answer call.status (sym front.0) (inr one)
    ]

    without_run : EndsByAnswer call → ⊥
    without_run without = elim without.ends [
      | inl (answer, ends) ↦ by_answer answer ends
      | inr (inl fault) ↦ elim fault.shows [
        | inl whole ↦ omega (arith, whole.0, one)
        | inr front ↦ omega (arith, front.0, one)
      ]
      | inr (inr memory) ↦ omega (arith, memory.status, one)
    ]

    by_run : (t : Task) (result : Result Ended RunEnd) → AsksFor (known_bytes call.files_before) call.words t
        → EndsByRun call t result → ⊥
    by_run t result asks ends =
        let fault = told_fault t.program.layout.files ends.middle call.out_after result ends.refused call.status ends.told one in
        let before = outside call.files_before call.out_before in
        let after = outside call.files_after ends.middle in
        let asked = subst (λ (k : Option Contents). AsksFor k call.words t) runs.known asks in
        let holds = subst (λ (r : Run). HoldsTask (Some runs.told) r t) (one_run reading call.words asked.run runs.asked asked.said runs.said)
        asked.holds in
        elim (refused_or_ends t.program t.paths t.steps before after runs.told runs.known result ends.runs) [
          | inl refusal ↦ no_refusal result fault refusal
          | inr (n, is_end) ↦
              no_fault runs.contents runs.told runs.words runs.clean runs.asked t fault.0 fault.1 fault.2 n runs.same holds
              (subst (λ (x : Result Ended RunEnd). IsEnd t.program (told_files runs.told t.paths) t.steps x n) fault.3 is_end)
        ]

    not_one : Concludes call → ⊥
    not_one concludes = elim concludes [
      | inl without ↦ without_run without
      | inr (inl a) ↦ analyse_or_run reading call.words a.source a.certificate runs.asked a.said runs.said
      | inr (inr (inl t)) ↦ trial_or_run reading call.words t.count runs.asked t.said runs.said
      | inr (inr (inr (t, result, asks, ends))) ↦ by_run t result asks ends
    ]

  pub clean_runs_meet_no_fault : OneReading → (call : Call) → Concludes call → CleanRunsMeetNoFault call
  clean_runs_meet_no_fault reading call concludes runs = record {
    status = λ one. not_one reading call runs one concludes;
    ends = λ t kind statement step steps.
        no_fault runs.contents runs.told runs.words runs.clean runs.asked t kind statement step steps runs.same;
  }
