-- What the parts of a trial find.
use Rattle.std.specs.Prelude.{ℕ, length}
use Rattle.cob_program.specs.ActView.{plain_program}
use Rattle.cert_text.specs.View.{Certificate}
use Rattle.commands.specs.declared.source.Laid.{Laid}
use Rattle.commands.specs.declared.analysing.findings.Findings.{Findings}
use Rattle.commands.specs.Analysis.{Analysis, analysis}
use Rattle.commands.specs.AnalysisSteps.{IsFinding}
use Rattle.commands.specs.TrialEndings.{IsTrialOf, nodes_line}

-- findings of some certificate for what was read, behind the number of its nodes
abbrev pub IsNumberedFinding : Laid → Findings → Type 0
IsNumberedFinding laid f =
    (c : Certificate)
    × IsFinding (nodes_line (length laid.graph.nodes)) (analysis (plain_program laid.program) laid.graph c) f

-- findings of some certificate for the source of the trial
pub record IsTrialFinding (count : ℕ) (f : Findings) : Type 0 where
  pub analysis : Analysis
  pub is_of : IsTrialOf count analysis
  pub finding : IsFinding (nodes_line (length analysis.graph.nodes)) analysis f
