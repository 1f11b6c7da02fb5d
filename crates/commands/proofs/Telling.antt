-- How a call ends follows from what is found of a source.
use Rattle.std.proofs.Common.{◌≡◌, ℕ, List, [], Option, refl, ap, ◌∙◌, subst, inl, inr}
use Rattle.std.specs.Prelude.{option_map, take, false, MatchResult, Result, Ok, Err}
use Rattle.std.specs.FinMap.{insert}
use Rattle.batch_io.specs.Faults.{Rose}
use Rattle.batch_io.specs.FilesState.{Contents, FilesState, KeepsIds, known_bytes}
use Rattle.batch_io.specs.SinkState.{SinkState}
use Rattle.cert_text.specs.View.{Certificate}
use Rattle.cob_program.specs.ActView.{plain_program}
use Rattle.cob_interp.proofs.Passing.{ids_pass}
use Rattle.command_words.specs.Commands.{IsCommand, analyse}
use Rattle.commands.specs.declared.answer.Stop.{Stop}
use Rattle.commands.specs.declared.answer.Stop.TheVariants.{Memory}
use Rattle.commands.specs.declared.source.Laid.{Laid}
use Rattle.commands.specs.Call.{call}
use Rattle.commands.specs.Steps.{Reads, HoldsLaid}
use Rattle.commands.specs.declared.analysing.findings.Findings.{Findings}
use Rattle.commands.specs.Analysis.{Analysis, analysis, text_of}
use Rattle.commands.specs.Endings.{EndsByAnalysis, EndsWithAnalysis, FailsToWrite, IsTooLong, LeavesFront, TellsAnalysis, TellsUnwritten}
use Rattle.commands.specs.AnalysisSteps.{IsFinding, IsFindingFor, IsFindingOf}

module _ (words : List (List ℕ)) (before middle after : FilesState) (old new : SinkState) (status : ℕ)
    (reads : Reads before middle false) (certificate heading : List ℕ) (a : Analysis) where
  abbrev with_text : List ℕ → Option Contents → Option Contents
  with_text text known = option_map (λ contents. insert contents certificate text) known

  tells : TellsAnalysis (call words middle after old new status) certificate heading a
      → TellsAnalysis (call words before after old new status) certificate heading a
  tells h = record {
    fits = h.fits;
    written = h.written ∙ ap (with_text (text_of a)) reads.contents;
    writing = h.writing ∙ reads.writing;
    shows = h.shows;
  }

  too_long : IsTooLong (call words middle after old new status) a → IsTooLong (call words before after old new status) a
  too_long h = record {
    long = h.long;
    contents = h.contents ∙ reads.contents;
    writing = h.writing ∙ reads.writing;
    shows = h.shows;
  }

  leaves : (text : List ℕ) → LeavesFront (call words middle after old new status) certificate text
      → LeavesFront (call words before after old new status) certificate text
  leaves text (inl h) = inl (h ∙ reads.contents)
  leaves text (inr (n, l, h)) = inr (n, l, h ∙ ap (with_text (take n text)) reads.contents)

  unwritten : TellsUnwritten (call words middle after old new status)
      → TellsUnwritten (call words before after old new status)
  unwritten (inl (rose, shows)) = inl (subst (λ (count : ℕ). Rose count after.writing) reads.writing rose, shows)
  unwritten (inr (kept, shows)) = inr (kept ∙ reads.writing, shows)

  fails : FailsToWrite (call words middle after old new status) certificate a
      → FailsToWrite (call words before after old new status) certificate a
  fails h = record { fits = h.fits; left = leaves (text_of a) h.left; told = unwritten h.told }

  ends_behind : EndsWithAnalysis (call words middle after old new status) certificate heading a
      → EndsWithAnalysis (call words before after old new status) certificate heading a
  ends_behind (inl h) = inl (tells h)
  ends_behind (inr (inl h)) = inr (inl (too_long h))
  ends_behind (inr (inr h)) = inr (inr (fails h))

-- a call that told what was found behind files that were only read
module _ (words : List (List ℕ)) (source certificate : List ℕ) (before middle after : FilesState) (old new : SinkState)
    (status : ℕ) where
  pub ends_by_analysis : IsCommand words (analyse source certificate) → Reads before middle false → (f : Findings)
      → IsFindingOf (known_bytes before) source f → KeepsIds middle after → after.reading ≡ middle.reading
      → ((words : List (List ℕ)) (heading : List ℕ) (a : Analysis) → IsFinding heading a f
      → EndsWithAnalysis (call words middle after old new status) certificate heading a)
      → EndsByAnalysis (call words before after old new status)
  ends_by_analysis said reads f found ids reading ends = record {
    source = source;
    certificate = certificate;
    said = said;
    analysis = found.analysis;
    is_of = found.is_of;
    ids = ids_pass before middle after reads.ids ids;
    reading = reading ∙ reads.reading.kept refl;
    ends = ends_behind words before middle after old new status reads certificate [] found.analysis
        (ends words [] found.analysis found.finding);
  }

-- ---- the findings of what was read

pub weaker_finding : (laid : Laid) (c : Certificate) (result : Result Findings Stop)
    → MatchResult result (IsFinding [] (analysis (plain_program laid.program) laid.graph c)) (λ stop. stop ≡ Memory)
    → MatchResult result (IsFindingFor laid) (λ stop. stop ≡ Memory)
weaker_finding laid c (Ok f) h = (c, h)
weaker_finding laid c (Err stop) h = h

-- what was found for a source that its file holds
pub found_in : (laid : Laid) (known : Option Contents) (source : List ℕ) → HoldsLaid known source laid
    → (f : Findings) → IsFindingFor laid f → IsFindingOf known source f
found_in laid known source holds f found = record {
  analysis = analysis (plain_program laid.program) laid.graph found.0;
  is_of = record { bytes = holds.bytes; held = holds.held; is_program = holds.is_laid; found = found.1.found };
  finding = found.1;
}
