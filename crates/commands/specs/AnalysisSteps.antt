-- What the parts of an analysis do.
use Rattle.std.specs.Prelude.{◌≡◌, ◌++◌, ℕ, List, [], Option}
use Rattle.batch_io.specs.FilesState.{Contents}
use Rattle.cob_program.specs.ActView.{plain_program}
use Rattle.cert_text.specs.View.{Certificate}
use Rattle.commands.specs.declared.source.Laid.{Laid}
use Rattle.commands.specs.Answer.{answer_text, status_of}
use Rattle.commands.specs.declared.analysing.findings.Findings.{Findings}
use Rattle.commands.specs.Analysis.{Analysis, IsFound, analysis, report_of, text_of, IsAnalysisOf}

-- the texts of what was found, the report's behind a heading, and the status of the report
pub record IsFinding (heading : List ℕ) (a : Analysis) (f : Findings) : Type 0 where
  pub found : IsFound a
  pub certificate : f.certificate.items ≡ text_of a
  pub report : f.report.items ≡ heading ++ answer_text (report_of a)
  pub status : f.status ≡ status_of (report_of a)

-- findings of some certificate for what was read
abbrev pub IsFindingFor : Laid → Findings → Type 0
IsFindingFor laid f = (c : Certificate) × IsFinding [] (analysis (plain_program laid.program) laid.graph c) f

-- findings of some certificate for the source that the file holds
pub record IsFindingOf (known : Option Contents) (source : List ℕ) (f : Findings) : Type 0 where
  pub analysis : Analysis
  pub is_of : IsAnalysisOf known source analysis
  pub finding : IsFinding [] analysis f
