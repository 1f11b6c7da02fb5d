-- Where the status is 0 the program is safe, and where it is 0 or 1 the report names all faults.
use Rattle.std.proofs.Common.{◌≡◌, ℕ, zero, suc, List, [], ◌∷◌, Option, Some, ◌⊎◌, refl, sym, ap, ◌∙◌, subst, inl, inr, arith}
use Rattle.std.specs.List.{Contains}
use Rattle.std.proofs.lemmas.List.Elements.{Contains-append_right}
use Rattle.batch_io.specs.FilesState.{Contents, known_bytes}
use Rattle.cob_tree.specs.declared.fault.Open.{Open}
use Rattle.cob_program.specs.Act.{Program}
use Rattle.cob_runs.specs.Runs.{IsFaultless}
use Rattle.cob_graph.specs.declared.graph.Graph.{Graph}
use Rattle.cert_text.specs.View.{Certificate}
use Rattle.cert_text.specs.Allowed.{IsAllowed}
use Rattle.commands.specs.Checker.OpenPairs.{open_at}
use Rattle.commands.specs.Checker.Checking.{Accepts, AcceptedClaimsCoverRuns, CoversRuns}
use Rattle.source_facts.specs.Sources.{SourcesHaveSourceGraphs}
use Rattle.commands.specs.declared.checking.alarms.Alarm.{Alarm}
use Rattle.commands.specs.Alarms.{alarm_in, alarms_of}
use Rattle.commands.specs.ReportText.{report_text}
use Rattle.cob_program.specs.Statements.{program_statements}
use Rattle.command_words.specs.Commands.{Command, IsCommand, OneReading, check}
use Rattle.commands.specs.Profile.{IsProgramOf}
use Rattle.commands.specs.Answer.{Answer, Report, HoldsProgram, answer_text, status_of}
use Rattle.commands.specs.Showing.{Gains}
use Rattle.commands.specs.Call.{Call}
use Rattle.commands.proofs.Statuses.{above_one, low_status, never_low, no_alarm}
use Rattle.commands.specs.CheckAnswers.{AnswersCheck, AnswersProgram}
use Rattle.analyse_top.specs.Answers.{Answers, AnswersCommand}
use Rattle.analyse_top.specs.Conclusion.{Concludes, IsExact, CleanIsSafe, EndsBy, EndsByAnswer, NameAllFaults, ReportsAreComplete, IsAccepted, AcceptsExactly, report_on}
use Rattle.analyse_top.proofs.Words.{analyse_or_check, check_or_run, check_or_trial}

-- ---- what a report says

-- an inductive certificate's open pairs cover the runs of a source's program
abbrev pub CheckingIsSound : Type 0
CheckingIsSound =
    (bytes : List ℕ) (p : Program) (g : Graph) (c : Certificate) (pairs : List Open) → IsProgramOf bytes p g
    → IsAllowed c → Accepts p g c pairs → CoversRuns p pairs

pub checking_is_sound : SourcesHaveSourceGraphs → AcceptedClaimsCoverRuns → CheckingIsSound
checking_is_sound have cover bytes p g c pairs is allowed accepts =
    cover p g c pairs (have bytes p g is.is_source is.is_graph) allowed accepts

contained_alarm : (p : Program) (pairs : List Open) (pair : Open) → Contains pairs pair
    → Contains (alarms_of p pairs) (alarm_in (program_statements p) pair)
contained_alarm p [] pair (k, l, e) = absurd (omega (arith, l))
contained_alarm p (x ∷ xs) pair (zero, l, e) = (0, omega arith, ap (alarm_in (program_statements p)) e)
contained_alarm p (x ∷ xs) pair (suc k, l, e) =
    Contains-append_right (alarm_in (program_statements p) x ∷ []) (alarms_of p xs) (alarm_in (program_statements p) pair)
    (contained_alarm p xs pair (k, omega (arith, l), e))

none_contained : {X : Type 0} (x : X) → Contains [] x → ⊥
none_contained x (k, l, e) = omega (arith, l)

-- a report on what is accepted names all faults
pub names_all : CheckingIsSound → (bytes : List ℕ) (p : Program) (g : Graph) (c : Certificate) (pairs : List Open)
    → IsProgramOf bytes p g → IsAllowed c → Accepts p g c pairs → NameAllFaults (alarms_of p pairs) p
names_all sound bytes p g c pairs is allowed accepts told first choices n kind statement fault =
    let there = sound bytes p g c pairs is allowed accepts told first choices n kind statement fault in
    (alarm_in (program_statements p) (open_at statement kind), contained_alarm p pairs (open_at statement kind) there, (refl, refl))

module _ (sound : CheckingIsSound) (one_reading : OneReading) (contents : Contents) (source certificate : List ℕ) where
  -- a report on a program names all its faults
  pub record Reported (alarms : List Alarm) : Type 0 where
    pub pairs : List Open
    pub accepted : IsAccepted contents source certificate pairs
    pub alarms_are : alarms ≡ alarms_of accepted.program pairs
    pub named : NameAllFaults alarms accepted.program

  reported_by : (alarms : List Alarm) (p : Program) (g : Graph) → HoldsProgram contents source p g
      → AnswersProgram contents certificate p g (Report alarms) → Reported alarms
  reported_by alarms p g holds (c, held, (pairs, accepts, are)) = record {
    pairs = pairs;
    accepted = record {
      program = p;
      graph = g;
      claims = c;
      holds = holds;
      held = held;
      accepts = accepts;
    };
    alarms_are = are;
    named = subst (λ (xs : List Alarm). NameAllFaults xs p) (sym are)
        (names_all sound holds.bytes p g c pairs holds.is_program held.allowed accepts);
  }

  reported_for : (alarms : List Alarm) → AnswersCheck contents source certificate (Report alarms) → Reported alarms
  reported_for alarms (inl refused) = absurd refused
  reported_for alarms (inr (p, g, holds, answers)) = reported_by alarms p g holds answers

  reported : (alarms : List Alarm) (words : List (List ℕ)) → IsCommand words (check source certificate)
      → Answers (Some contents) words (Report alarms) → Reported alarms
  reported alarms words is (inl (none, usage)) = absurd (none (check source certificate) is)
  reported alarms words is (inr (c, also, answers)) =
      let same = one_reading words c (check source certificate) also is in
      reported_for alarms (subst (λ (x : Command). AnswersCommand (Some contents) x (Report alarms)) same answers)

  -- a call that ends at 0 or 1 shows a report
  pub record Shown (call : Call) : Type 0 where
    pub alarms : List Alarm
    pub reported_ : Reported alarms
    pub status : status_of (Report alarms) ≡ call.status
    pub shown : Gains call.out_before call.out_after (report_text alarms)

  module _ (call : Call) (is : IsCommand call.words (check source certificate)) (known : known_bytes call.files_before ≡ Some contents)
      (low : (call.status ≡ 0) ⊎ (call.status ≡ 1)) where
    by_answer : (answer : Answer) → EndsBy call answer → Shown call
    by_answer answer ends = elim ends.shows [
      | inl whole ↦
          let report = low_status answer call.status (sym whole.0) low in
          let answers = subst (λ (k : Option Contents). Answers k call.words answer) known ends.is_answer in
          record {
            alarms = report.0;
            reported_ = reported report.0 call.words is (subst (λ (a : Answer). Answers (Some contents) call.words a) report.1 answers);
            status = ap status_of (sym report.1) ∙ sym whole.0;
            shown = subst (λ (a : Answer). Gains call.out_before call.out_after (answer_text a)) report.1 whole.1;
          }
      | inr front ↦ absurd (never_low answer call.status (sym front.0) low)
    ]

    without_run : EndsByAnswer call → Shown call
    without_run without = elim without.ends [
      | inl (answer, ends) ↦ by_answer answer ends
      | inr (inl fault) ↦ elim fault.shows [
        | inl whole ↦ absurd (above_one call.status 5 (omega arith) (sym whole.0) low)
        | inr front ↦ absurd (above_one call.status 5 (omega arith) (sym front.0) low)
      ]
      | inr (inr memory) ↦ absurd (above_one call.status 8 (omega arith) (sym memory.status) low)
    ]

    pub shown_report : Concludes call → Shown call
    shown_report concludes = elim concludes [
      | inl without ↦ without_run without
      | inr (inl a) ↦ absurd (analyse_or_check one_reading call.words a.source a.certificate source certificate a.said is)
      | inr (inr (inl t)) ↦ absurd (check_or_trial one_reading call.words source certificate t.count is t.said)
      | inr (inr (inr (t, result, asks, runs))) ↦
          absurd (check_or_run one_reading call.words source certificate asks.run is asks.said)
    ]

module _ (sound : CheckingIsSound) (one_reading : OneReading) (call : Call) (concludes : Concludes call) where
  no_fault_left : (alarms : List Alarm) (p : Program) → alarms ≡ [] → NameAllFaults alarms p → IsFaultless p
  no_fault_left alarms p none named told first choices n kind statement fault =
      let w = named told first choices n kind statement fault in
      none_contained w.0 (subst (λ (xs : List Alarm). Contains xs w.0) none w.1)

  pub clean_is_safe : CleanIsSafe call
  clean_is_safe contents source certificate is known at_zero =
      let w = shown_report sound one_reading contents source certificate call is known (inl at_zero) concludes in
      record {
        name = source;
        certificate = certificate;
        checked = is;
        program = w.reported_.accepted.program;
        graph = w.reported_.accepted.graph;
        holds = w.reported_.accepted.holds;
        safe = no_fault_left w.alarms w.reported_.accepted.program (no_alarm w.alarms (w.status ∙ at_zero)) w.reported_.named;
      }

  pub reports_are_complete : ReportsAreComplete call
  reports_are_complete contents source certificate is known low =
      let w = shown_report sound one_reading contents source certificate call is known low concludes in
      record {
        program = w.reported_.accepted.program;
        graph = w.reported_.accepted.graph;
        holds = w.reported_.accepted.holds;
        alarms = w.alarms;
        shown = w.shown;
        named = w.reported_.named;
      }

  given : (contents : Contents) (source certificate : List ℕ) (pairs : List Open)
      → IsCommand call.words (check source certificate) → (a : IsAccepted contents source certificate pairs)
      → Answers (Some contents) call.words (report_on a.program pairs)
  given contents source certificate pairs is a =
      inr (
        check source certificate,
        is,
        inr (a.program, a.graph, a.holds, (a.claims, a.held, (pairs, a.accepts, refl))),
      )

  pub accepts_exactly : IsExact call → AcceptsExactly call
  accepts_exactly exact contents source certificate is known = record {
    only = λ low.
        let w = shown_report sound one_reading contents source certificate call is known low concludes in
        (w.reported_.pairs, w.reported_.accepted, ap (λ (xs : List Alarm). status_of (Report xs)) (sym w.reported_.alarms_are) ∙ w.status);
    always = λ pairs a.
        exact.answers contents (report_on a.program pairs) known (given contents source certificate pairs is a);
  }
