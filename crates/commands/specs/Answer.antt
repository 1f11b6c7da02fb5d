-- What a command answers where it runs nothing: an answer, with its text and its status.
-- Which answer is given is said where the command stands; here, for the source that all of them read.
use Rattle.std.specs.Prelude.{◌≡◌, ℕ, Bool, true, false, List, [], ◌∷◌, ◌++◌, codes, decimal, None, Some, IsSomeAnd}
use Rattle.std.specs.FinMap.{get}
use Rattle.batch_io.specs.FilesState.{Contents}
use Rattle.cob_program.specs.Act.{Program}
use Rattle.cob_graph.specs.declared.graph.Graph.{Graph}
use Rattle.cob_front.specs.declared.refusal.Refusal.{Refusal}
use Rattle.cob_front.specs.declared.refusal.Refusal.TheVariants as end
use Rattle.cert_text.specs.declared.gap.Gap.{Gap}
use Rattle.cert_check.specs.declared.ends.Shape.{Shape}
use Rattle.commands.specs.declared.checking.alarms.Alarm.{Alarm}
use Rattle.commands.specs.ReportText.{line_end, report_text}
use Rattle.commands.specs.Text.{at_line, leak_line, refusal_text, shape_line}
use Rattle.commands.specs.Profile.{IsProgramOf, IsProfileCause}

-- ---- answers, their texts and statuses

pub data Answer : Type 0 where
  -- The words are no command; the first of them, or empty. Or words on files are refused; the one to blame, or a file's
  -- external name.
  Usage : List ℕ → Answer
  -- there is no file of this name
  Absent : List ℕ → Answer
  -- the source isn't of the profile, for this cause
  Refused : Refusal → Answer
  CertificateLong : Answer
  -- the first line with which no certificate's text goes on
  CertificateBad : ℕ → Answer
  -- the certificate's number of cells or nodes, and the program's
  CertificateMisfit : Shape → ℕ → ℕ → Answer
  -- the layer and the first edge at which the certificate isn't inductive, and the first place there
  NotInductive : ℕ → ℕ → Gap → Answer
  -- the certificate holds, and leaves these statements open
  Report : List Alarm → Answer

abbrev pub is_usage : Answer → Bool
is_usage (Usage word) = true
is_usage _ = false

abbrev pub usage_text : List ℕ → List ℕ
usage_text [] = codes "E1 usage" ++ line_end
usage_text (byte ∷ word) = codes "E1 usage " ++ (byte ∷ word) ++ line_end

abbrev pub answer_text : Answer → List ℕ
answer_text (Usage word) = usage_text word
answer_text (Absent name) = codes "E2 absent " ++ name ++ line_end
answer_text (Refused cause) = refusal_text cause
answer_text CertificateLong = codes "E11 certificate too long" ++ line_end
answer_text (CertificateBad line) = at_line (codes "E12") line
answer_text (CertificateMisfit what found wanted) = shape_line what found wanted
answer_text (NotInductive layer edge gap) = leak_line layer edge gap
answer_text (Report alarms) = report_text alarms

abbrev pub refusal_status : Refusal → ℕ
refusal_status end.TooLong = 2
refusal_status (end.BadLine line column) = 2
refusal_status (end.BadToken line column) = 2
refusal_status (end.Syntax line) = 2
refusal_status (end.Nesting count) = 9
refusal_status (end.Outside rule line) = 2
refusal_status (end.Limit which count) = 9
refusal_status end.Memory = 8

abbrev pub status_of : Answer → ℕ
status_of (Usage word) = 4
status_of (Absent name) = 7
status_of (Refused cause) = refusal_status cause
status_of CertificateLong = 3
status_of (CertificateBad line) = 3
status_of (CertificateMisfit what found wanted) = 3
status_of (NotInductive layer edge gap) = 3
status_of (Report []) = 0
status_of (Report (alarm ∷ alarms)) = 1

-- the status where the text can't be written: a refusal keeps its own, a report has that of a write fault
abbrev pub status_unwritten : Answer → ℕ
status_unwritten (Report alarms) = 6
status_unwritten (Usage word) = status_of (Usage word)
status_unwritten (Absent name) = status_of (Absent name)
status_unwritten (Refused cause) = status_of (Refused cause)
status_unwritten CertificateLong = status_of CertificateLong
status_unwritten (CertificateBad line) = status_of (CertificateBad line)
status_unwritten (CertificateMisfit what found wanted) = status_of (CertificateMisfit what found wanted)
status_unwritten (NotInductive layer edge gap) = status_of (NotInductive layer edge gap)

-- ---- the answer to a source

-- The file holds a source of this program of the profile, whose graph this is.
pub record HoldsProgram (contents : Contents) (name : List ℕ) (p : Program) (g : Graph) : Type 0 where
  pub bytes : List ℕ
  pub held : get contents name ≡ Some bytes
  pub is_program : IsProgramOf bytes p g

-- a refusal of the source
abbrev pub AnswersSource : Contents → List ℕ → Answer → Type 0
AnswersSource contents source (Absent name) = (get contents source ≡ None) × (name ≡ source)
AnswersSource contents source (Refused cause) = IsSomeAnd (get contents source) (λ bytes. IsProfileCause bytes cause)
AnswersSource contents source _ = ⊥
