-- Each answer is given exactly where it is the answer, and what is asked for is found, or run to its own end.
use Rattle.std.proofs.Common.{◌≡◌, ℕ, ◌⊎◌, List, Option, Some, Result, subst, inl, inr}
use Rattle.std.specs.Prelude.{IfSome}
use Rattle.std.specs.FinMap.{get}
use Rattle.batch_io.specs.FilesState.{Contents, known_bytes}
use Rattle.cob_graph.specs.Graphs.{OneGraph}
use Rattle.cob_front.specs.Laws.{OneAnswer}
use Rattle.cob_interp.specs.declared.ends.Ended.{Ended}
use Rattle.cob_interp.specs.declared.ends.RunEnd.{RunEnd}
use Rattle.cob_interp.specs.Ends.{told_files, IsEnd}
use Rattle.cob_interp.specs.OneEnd.{OneEnd}
use Rattle.cob_interp.specs.Runs.{outside}
use Rattle.command_words.specs.Commands.{OneReading}
use Rattle.commands.specs.Answer.{Answer, HoldsProgram}
use Rattle.commands.specs.Call.{Call}
use Rattle.commands.proofs.Sources.{one_ending}
use Rattle.commands.proofs.OneCheck.{TextsAreApart}
use Rattle.commands.specs.Endings.{EndsByAnalysis}
use Rattle.commands.specs.Runs.{Task, AsksFor}
use Rattle.commands.proofs.Asked.{one_for_run}
use Rattle.commands.proofs.RunEnds.{IsRefusal, EndsSomewhere, refused_or_ends}
use Rattle.analyse_top.specs.Answers.{Answers}
use Rattle.analyse_top.specs.Conclusion.{Concludes, IsExact, AnalysesExactly, AnswersExactly, RunsExactly, TrialsExactly, FailsToRun, EndsBy, EndsByAnswer, EndsByMemory, EndsByReadFault, EndsByRun}
use Rattle.analyse_top.proofs.AskedOnce.{asked_once, answered_or_analysed, answered_or_asked, answered_or_tried}
use Rattle.analyse_top.proofs.OneAnswer.{one_answer}
use Rattle.analyse_top.proofs.Words.{analyse_or_run, analyse_or_trial, trial_or_run}

module _ (law : (bytes : List ℕ) → OneAnswer bytes) (one_reading : OneReading) (graphs : OneGraph)
    (one_end : OneEnd) (laws : TextsAreApart) where
  same_answer : (contents : Contents) (words : List (List ℕ)) (a b : Answer)
      → Answers (Some contents) words a → Answers (Some contents) words b → a ≡ b
  same_answer contents =
      one_answer contents (λ bytes. one_ending law bytes graphs) laws one_reading (λ r. one_for_run r law graphs contents)

  -- ---- answers

  answers_without_run : (call : Call) (contents : Contents) (answer : Answer)
      → known_bytes call.files_before ≡ Some contents
      → Answers (Some contents) call.words answer → EndsByAnswer call
      → EndsBy call answer ⊎ EndsByReadFault call ⊎ EndsByMemory call
  answers_without_run call contents answer known is without = elim without.ends [
    | inl (other, ends) ↦
        let here = subst (λ (k : Option Contents). Answers k call.words other) known ends.is_answer in
        inl (subst (EndsBy call) (same_answer contents call.words other answer here is) ends)
    | inr fault ↦ inr fault
  ]

  -- the program that a call analyses
  analysed_program : (call : Call) (contents : Contents) → known_bytes call.files_before ≡ Some contents
      → (a : EndsByAnalysis call) → HoldsProgram contents a.source a.analysis.program a.analysis.graph
  analysed_program call contents known a = record {
    bytes = a.is_of.bytes;
    held = subst (λ (k : Option Contents). IfSome k (λ told. get told a.source ≡ Some a.is_of.bytes)) known a.is_of.held;
    is_program = a.is_of.is_program;
  }

  answers_exactly : (call : Call) → Concludes call → AnswersExactly call
  answers_exactly call concludes contents answer known is = elim concludes [
    | inl without ↦ answers_without_run call contents answer known is without
    | inr (inl a) ↦
        absurd (answered_or_analysed law graphs one_reading contents call.words answer a.source a.certificate
        a.analysis.program a.analysis.graph is a.said (analysed_program call contents known a))
    | inr (inr (inl t)) ↦
        absurd (answered_or_tried law one_reading (Some contents) call.words t.count t.analysis.program t.analysis.graph
        t.is_of.is_program answer is t.said)
    | inr (inr (inr (t, result, asks, runs))) ↦
        let here = subst (λ (k : Option Contents). AsksFor k call.words t) known asks in
        absurd (answered_or_asked law graphs one_reading contents call.words answer t is here)
  ]

  -- ---- analyses

  analyses_exactly : (call : Call) → Concludes call → AnalysesExactly call
  analyses_exactly call concludes contents source certificate p g known said holds = elim concludes [
    | inl without ↦ elim without.ends [
      | inl (answer, ends) ↦
          let here = subst (λ (k : Option Contents). Answers k call.words answer) known ends.is_answer in
          absurd (answered_or_analysed law graphs one_reading contents call.words answer source certificate p g here said holds)
      | inr fault ↦ inr fault
    ]
    | inr (inl a) ↦ inl a
    | inr (inr (inl t)) ↦ absurd (analyse_or_trial one_reading call.words source certificate t.count said t.said)
    | inr (inr (inr (t, result, asks, runs))) ↦
        absurd (analyse_or_run one_reading call.words source certificate asks.run said asks.said)
  ]

  -- ---- trials

  trials_exactly : (call : Call) → Concludes call → TrialsExactly call
  trials_exactly call concludes count p g said is = elim concludes [
    | inl without ↦ elim without.ends [
      | inl (answer, ends) ↦
          absurd (answered_or_tried law one_reading (known_bytes call.files_before) call.words count p g is answer
          ends.is_answer said)
      | inr fault ↦ inr fault
    ]
    | inr (inl a) ↦ absurd (analyse_or_trial one_reading call.words a.source a.certificate count a.said said)
    | inr (inr (inl t)) ↦ inl t
    | inr (inr (inr (t, result, asks, runs))) ↦
        absurd (trial_or_run one_reading call.words count asks.run said asks.said)
  ]

  -- ---- runs

  module _ (call : Call) (contents : Contents) (t : Task) (result : Result Ended RunEnd) (steps : ℕ)
      (known : known_bytes call.files_before ≡ Some contents) (asks : AsksFor (Some contents) call.words t)
      (is_end : IsEnd t.program (told_files contents t.paths) t.steps result steps) where
    no_run : EndsByAnswer call → EndsByRun call t result ⊎ FailsToRun call t
    no_run without = elim without.ends [
      | inl (answer, ends) ↦
          let here = subst (λ (k : Option Contents). Answers k call.words answer) known ends.is_answer in
          absurd (answered_or_asked law graphs one_reading contents call.words answer t here asks)
      | inr (inl fault) ↦ inr (inl fault)
      | inr (inr memory) ↦ inr (inr (inl memory))
    ]

    by_end : (other : Result Ended RunEnd) → EndsByRun call t other
        → IsRefusal t.program t.paths t.steps other
        ⊎ EndsSomewhere t.program t.paths t.steps contents other
        → EndsByRun call t result ⊎ FailsToRun call t
    by_end other runs (inl (inl e)) = inr (inr (inr (inl (subst (EndsByRun call t) e runs))))
    by_end other runs (inl (inr (inl e))) = inr (inr (inr (inr (inl (subst (EndsByRun call t) e runs)))))
    by_end other runs (inl (inr (inr e))) = inr (inr (inr (inr (inr (subst (EndsByRun call t) e runs)))))
    by_end other runs (inr (n, there)) =
        inl (subst (EndsByRun call t)
        (one_end t.program (told_files contents t.paths) t.steps other result n steps there is_end) runs)

    this_run : (other : Result Ended RunEnd) → EndsByRun call t other → EndsByRun call t result ⊎ FailsToRun call t
    this_run other runs =
        let before = outside call.files_before call.out_before in
        let after = outside call.files_after runs.middle in
        by_end other runs
        (refused_or_ends t.program t.paths t.steps before after contents known other runs.runs)

  runs_exactly : (call : Call) → Concludes call → RunsExactly call
  runs_exactly call concludes contents t result steps known asks is_end = elim concludes [
    | inl without ↦ no_run call contents t result steps known asks is_end without
    | inr (inl a) ↦ absurd (analyse_or_run one_reading call.words a.source a.certificate asks.run a.said asks.said)
    | inr (inr (inl u)) ↦ absurd (trial_or_run one_reading call.words u.count asks.run u.said asks.said)
    | inr (inr (inr (u, other, asked, runs))) ↦
        let here = subst (λ (k : Option Contents). AsksFor k call.words u) known asked in
        let same = asked_once law graphs one_reading contents call.words u t here asks in
        this_run call contents t result steps known asks is_end other
        (subst (λ (x : Task). EndsByRun call x other) same runs)
  ]

  pub is_exact : (call : Call) → Concludes call → IsExact call
  is_exact call concludes = record {
    answers = answers_exactly call concludes;
    analyses = analyses_exactly call concludes;
    trials = trials_exactly call concludes;
    runs = runs_exactly call concludes;
  }
