-- How a call that finds a certificate ends: what its file holds, and what is shown. A heading stands before the report;
-- `analyse` has none.
use Rattle.std.specs.Prelude.{◌≡◌, ◌<◌, ◌≤◌, ℕ, ◌⊎◌, List, [], ◌++◌, length, take}
use Rattle.batch_io.specs.Faults.{Rose}
use Rattle.batch_io.specs.FilesState.{KeepsIds, known_bytes}
use Rattle.batch_io.specs.Wholes.{Holds}
use Rattle.command_words.specs.Commands.{IsCommand}
use Rattle.command_words.specs.Commands as command
use Rattle.commands.specs.Text.{memory_line, write_fault_line}
use Rattle.commands.specs.Showing.{ShowsIfMemory, ShowsRefusal}
use Rattle.commands.specs.Answer.{CertificateLong, answer_text, status_of}
use Rattle.commands.specs.Call.{Call}
use Rattle.commands.specs.CheckAnswers.{certificate_limit}
use Rattle.commands.specs.Analysis.{Analysis, IsAnalysisOf, report_of, text_of}

-- The file holds the certificate's text, and heading and report are shown, or a front of them.
pub record TellsAnalysis (call : Call) (certificate heading : List ℕ) (a : Analysis) : Type 0 where
  pub fits : length (text_of a) ≤ certificate_limit
  pub written : Holds call.files_before call.files_after certificate (text_of a)
  pub writing : call.files_after.writing ≡ call.files_before.writing
  pub shows : ShowsIfMemory call.out_before call.out_after
      (heading ++ answer_text (report_of a)) (status_of (report_of a)) 6 call.status

-- the file is as it was, or holds a front of the text
abbrev pub LeavesFront : Call → List ℕ → List ℕ → Type 0
LeavesFront call certificate text =
    (known_bytes call.files_after ≡ known_bytes call.files_before)
    ⊎ ((n : ℕ) × (n ≤ length text) × Holds call.files_before call.files_after certificate (take n text))

-- a write fault, which its count shows, or memory ran out
abbrev pub TellsUnwritten : Call → Type 0
TellsUnwritten call =
    ((Rose call.files_before.writing call.files_after.writing)
    × ShowsRefusal call.out_before call.out_after write_fault_line 6 call.status)
    ⊎ ((call.files_after.writing ≡ call.files_before.writing)
    × ShowsRefusal call.out_before call.out_after memory_line 8 call.status)

-- The file couldn't be made whole.
pub record FailsToWrite (call : Call) (certificate : List ℕ) (a : Analysis) : Type 0 where
  pub fits : length (text_of a) ≤ certificate_limit
  pub left : LeavesFront call certificate (text_of a)
  pub told : TellsUnwritten call

-- The text is too long for a certificate, and no file is changed.
pub record IsTooLong (call : Call) (a : Analysis) : Type 0 where
  pub long : certificate_limit < length (text_of a)
  pub contents : known_bytes call.files_after ≡ known_bytes call.files_before
  pub writing : call.files_after.writing ≡ call.files_before.writing
  pub shows : ShowsRefusal call.out_before call.out_after
      (answer_text CertificateLong) (status_of CertificateLong) call.status

abbrev pub EndsWithAnalysis : Call → List ℕ → List ℕ → Analysis → Type 0
EndsWithAnalysis call certificate heading a =
    TellsAnalysis call certificate heading a ⊎ IsTooLong call a ⊎ FailsToWrite call certificate a

-- A certificate is found for the source that the words name.
pub record EndsByAnalysis (call : Call) : Type 0 where
  pub source : List ℕ
  pub certificate : List ℕ
  pub said : IsCommand call.words (command.analyse source certificate)
  pub analysis : Analysis
  pub is_of : IsAnalysisOf (known_bytes call.files_before) source analysis
  pub ids : KeepsIds call.files_before call.files_after
  pub reading : call.files_after.reading ≡ call.files_before.reading
  pub ends : EndsWithAnalysis call certificate [] analysis
