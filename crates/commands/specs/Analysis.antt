-- What `analyse` finds of a source: a certificate that holds, and misses nothing that its thresholds can show.
use Rattle.std.specs.Prelude.{◌≡◌, ◌⊎◌, ℕ, true, List, Option, Some, IfSome}
use Rattle.std.specs.FinMap.{get}
use Rattle.batch_io.specs.FilesState.{Contents}
use Rattle.cob_tree.specs.declared.fault.Kind.{Kind}
use Rattle.cob_tree.specs.declared.fault.Open.{Open}
use Rattle.cob_program.specs.Act.{Program}
use Rattle.cob_graph.specs.declared.graph.Graph.{Graph}
use Rattle.cert_text.specs.View.{Certificate}
use Rattle.cert_text.specs.Allowed.{IsAllowed}
use Rattle.cert_text.specs.Text.{spelling}
use Rattle.commands.specs.Checker.Assignments.{Assignment}
use Rattle.commands.specs.Checker.Claims.{open_pairs}
use Rattle.commands.specs.Checker.Checking.{Accepts}
use Rattle.commands.specs.Alarms.{alarms_of}
use Rattle.analyse_core.specs.Assignments.{IsPackAssignment, IsThresholdAssignment, MissesNothing, MissesNothingTogether, is_cleared_by_both, is_cleared_in}
use Rattle.analyse_core.specs.Choice.{packs_of}
use Rattle.commands.specs.Profile.{IsProgramOf}
use Rattle.commands.specs.Answer.{Answer, Report}

-- a program with its graph, and a certificate for it
pub record Analysis : Type 0 where
  pub program : Program
  pub graph : Graph
  pub claims : Certificate

abbrev pub analysis : Program → Graph → Certificate → Analysis
analysis program graph claims = record { program = program; graph = graph; claims = claims }

-- ---- what is written and shown

abbrev pub text_of : Analysis → List ℕ
text_of a = spelling a.claims

-- what the certificate leaves open
abbrev pub pairs_of : Analysis → List Open
pairs_of a = open_pairs a.program a.graph a.claims

abbrev pub report_of : Analysis → Answer
report_of a = Report (alarms_of a.program (pairs_of a))

-- ---- what is promised of it

-- What is found is a certificate with the program's packs that holds. No pair is open that some inductive assignment
-- with thresholds at the heads of its loops clears, nor one that such an assignment of both layers clears.
pub record IsFound (a : Analysis) : Type 0 where
  pub allowed : IsAllowed a.claims
  pub packs : a.claims.packs ≡ packs_of a.program
  pub accepts : Accepts a.program a.graph a.claims (pairs_of a)
  pub misses_nothing : MissesNothing a.program a.graph a.claims
  pub misses_nothing_together : MissesNothingTogether a.program a.graph a.claims

-- The source's file holds bytes of a program of the profile, and this is found for it.
pub record IsAnalysisOf (known : Option Contents) (source : List ℕ) (a : Analysis) : Type 0 where
  pub bytes : List ℕ
  pub held : IfSome known (λ contents. get contents source ≡ Some bytes)
  pub is_program : IsProgramOf bytes a.program a.graph
  pub found : IsFound a

-- Some assignment with thresholds at the heads of loops clears each fault of each statement.
pub record IsCleanByCells (p : Program) (g : Graph) : Type 0 where
  pub assignment : Assignment
  pub assigns : IsThresholdAssignment p g assignment
  pub clears : (statement : ℕ) (fault : Kind) → is_cleared_in p g assignment statement fault ≡ true

-- Some assignment of both layers with thresholds at the heads of loops clears each fault.
pub record IsCleanByBoth (p : Program) (g : Graph) : Type 0 where
  pub assignment : Assignment
  pub assigns : IsThresholdAssignment p g assignment
  pub pack_assigns : IsPackAssignment p g assignment
  pub clears : (statement : ℕ) (fault : Kind) → is_cleared_by_both p g assignment statement fault ≡ true

abbrev pub CanBeClean : Program → Graph → Type 0
CanBeClean p g = IsCleanByCells p g ⊎ IsCleanByBoth p g
