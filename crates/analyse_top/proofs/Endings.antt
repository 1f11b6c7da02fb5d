-- How the call ends follows from what the parts did.
use Rattle.std.proofs.Common.{◌≡◌, ◌⊎◌, ℕ, true, false, List, length, refl, sym, ap, ◌∙◌, inl, inr, Result, Ok, Err, arith}
use Rattle.std.specs.Prelude.{IfOk, IfSome, MatchResult, Option, Some, None}
use Rattle.std.proofs.lemmas.Bool.{false≢true}
use Rattle.std.proofs.lemmas.List.{take_all}
use Rattle.std.specs.Io.KnownBytes.{append_known}
use Rattle.batch_io.specs.Faults.{Rose}
use Rattle.batch_io.specs.FilesState.{Contents, FilesState, known_bytes}
use Rattle.batch_io.specs.SinkState.{SinkState}
use Rattle.cob_interp.proofs.Passing.{ids_stay}
use Rattle.command_words.specs.Commands.{Command, IsCommand}
use Rattle.commands.specs.declared.answer.Stop.{Stop}
use Rattle.commands.specs.declared.answer.Stop.TheVariants as stop
use Rattle.commands.specs.declared.answer.Answer as code
use Rattle.commands.specs.Answer.{Answer, answer_text}
use Rattle.commands.specs.Text.{memory_line, read_fault_line}
use Rattle.commands.specs.Showing.{Gains, GainsFront, ShowsRefusal}
use Rattle.commands.specs.Call.{Call}
use Rattle.commands.specs.Steps.{Reads, stopped_by_fault, ShowsAnswer, ShowsFound}
use Rattle.commands.specs.View.{plain_answer, plain_result}
use Rattle.commands.specs.TrialEndings.{AnswersTrial}
use Rattle.analyse_top.specs.Answers.{Answers, AnswersCommand, IfKnown}
use Rattle.analyse_top.specs.Conclusion.{EndsBy, EndsByAnswer, MayBeShown}

whole_front : (old new : SinkState) (text : List ℕ) → Gains old new text → GainsFront old new text
whole_front old new text gains =
    (length text, omega arith, gains ∙ ap (append_known old.told) (sym (take_all (length text) text (omega arith))))

module _ (call : Call) where
  module _ (reads : Reads call.files_before call.files_after false) where
    ends_in : (answer : Answer) → EndsBy call answer → EndsByAnswer call
    ends_in answer ends = record {
      contents = reads.contents;
      ids = reads.ids;
      writing = reads.writing;
      ends = inl (answer, ends);
    }

    ends_out_of_memory : (text : List ℕ) → MayBeShown call text → call.status ≡ 8
        → GainsFront call.out_before call.out_after text
        → (text ≡ memory_line) ⊎ (call.out_after.faults ≡ call.out_before.faults) → EndsByAnswer call
    ends_out_of_memory text may eight front faults = record {
      contents = reads.contents;
      ids = reads.ids;
      writing = reads.writing;
      ends = inr (inr (record { status = eight; text = text; may = may; shows = front; faults = faults }));
    }

    ends_for_memory : ShowsRefusal call.out_before call.out_after memory_line 8 call.status → EndsByAnswer call
    ends_for_memory (inl (inl (eight, gains, kept))) =
        ends_out_of_memory memory_line (inl refl) eight
        (whole_front call.out_before call.out_after memory_line gains) (inl refl)
    ends_for_memory (inl (inr (eight, front, rose))) = ends_out_of_memory memory_line (inl refl) eight front (inl refl)
    ends_for_memory (inr (eight, front, kept)) = ends_out_of_memory memory_line (inl refl) eight front (inl refl)

    pub ends_by_answer : (answer : Answer) → Answers (known_bytes call.files_before) call.words answer
        → ShowsAnswer call.out_before call.out_after answer call.status → EndsByAnswer call
    ends_by_answer answer is (inl (inl shows)) =
        ends_in answer (record { is_answer = is; reading = reads.reading.kept refl; shows = shows })
    ends_by_answer answer is (inl (inr (eight, front, kept))) =
        ends_out_of_memory (answer_text answer) (inr (inr (answer, is, refl))) eight front (inr kept)
    ends_by_answer answer is (inr refusal) = ends_for_memory refusal

  module _ (reads : Reads call.files_before call.files_after true) where
    rose : Rose call.files_before.reading call.files_after.reading
    rose = reads.reading.rose refl

    ends_by_read_fault : ShowsRefusal call.out_before call.out_after read_fault_line 5 call.status → EndsByAnswer call
    ends_by_read_fault (inl shows) = record {
      contents = reads.contents;
      ids = reads.ids;
      writing = reads.writing;
      ends = inr (inl (record { rose = rose; shows = shows }));
    }
    ends_by_read_fault (inr (eight, front, kept)) = record {
      contents = reads.contents;
      ids = reads.ids;
      writing = reads.writing;
      ends = inr (inr (record {
        status = eight;
        text = read_fault_line;
        may = inr (inl (rose, refl));
        shows = front;
        faults = inr kept;
      }));
    }

  pub ends_found : (found : Result code.Answer Stop) → Reads call.files_before call.files_after (stopped_by_fault found)
      → IfOk found (λ answer. Answers (known_bytes call.files_before) call.words (plain_answer answer))
      → ShowsFound call.out_before call.out_after (plain_result found) call.status → EndsByAnswer call
  ends_found (Ok answer) reads is shows = ends_by_answer reads (plain_answer answer) is shows
  ends_found (Err stop.ReadFault) reads is shows = ends_by_read_fault reads shows
  ends_found (Err stop.Memory) reads is shows = ends_for_memory reads shows

pub reads_nothing : (files : FilesState) → Reads files files false
reads_nothing files = record {
  contents = refl;
  ids = ids_stay files;
  writing = refl;
  reading = record { later = omega arith; rose = λ b. absurd (false≢true b); kept = λ e. refl };
}

-- an answer by contents where they are known, and by what is said beside where they aren't
module _ (IsAnswer : Contents → Answer → Type 0) (Otherwise : Answer → Type 0) where
  known_or_not : (known : Option Contents) (answer : Answer) → IfSome known (λ contents. IsAnswer contents answer)
      → Otherwise answer → IfKnown known (λ contents. IsAnswer contents answer) (Otherwise answer)
  known_or_not None answer is beside = beside
  known_or_not (Some contents) answer is beside = is

  pub found_or_not : (result : Result code.Answer Stop) (known : Option Contents)
      → IfOk result (λ answer. IfSome known (λ contents. IsAnswer contents (plain_answer answer)))
      → IfOk result (λ answer. Otherwise (plain_answer answer))
      → IfOk result (λ answer. IfKnown known (λ contents. IsAnswer contents (plain_answer answer)) (Otherwise (plain_answer answer)))
  found_or_not (Err stop) known is beside = tt
  found_or_not (Ok answer) known is beside = known_or_not known (plain_answer answer) is beside

-- what a command is answered
pub answers_command : (result : Result code.Answer Stop) (known : Option Contents) (words : List (List ℕ)) (c : Command)
    → IsCommand words c → IfOk result (λ answer. AnswersCommand known c (plain_answer answer))
    → IfOk result (λ answer. Answers known words (plain_answer answer))
answers_command (Ok answer) known words c is h = inr (c, is, h)
answers_command (Err stop) known words c is h = tt

-- a trial answers for its source, or memory ran out
pub answered_trial : (result : Result code.Answer Stop) (count : ℕ)
    → MatchResult result (λ answer. AnswersTrial count (plain_answer answer)) (λ end. end ≡ stop.Memory)
    → IfOk result (λ answer. AnswersTrial count (plain_answer answer))
answered_trial (Ok answer) count h = h
answered_trial (Err end) count h = tt

-- a trial tells no fault of the files
pub trial_reads_nothing : (files : FilesState) (result : Result code.Answer Stop) (count : ℕ)
    → MatchResult result (λ answer. AnswersTrial count (plain_answer answer)) (λ end. end ≡ stop.Memory)
    → Reads files files (stopped_by_fault result)
trial_reads_nothing files (Ok answer) count h = reads_nothing files
trial_reads_nothing files (Err stop.ReadFault) count h = cc
trial_reads_nothing files (Err stop.Memory) count h = reads_nothing files
