-- What `check SOURCE CERT` answers: a refusal of the source or of the certificate, or what the certificate leaves open.
use Rattle.std.specs.Prelude.{◌≡◌, ℕ, ◌<◌, ◌≤◌, ◌⊎◌, List, [], length, None, Some, IsSomeAnd}
use Rattle.std.specs.FinMap.{get}
use Rattle.batch_io.specs.FilesState.{Contents}
use Rattle.cob_tree.specs.declared.fault.Open.{Open}
use Rattle.cob_program.specs.Act.{Program}
use Rattle.cob_graph.specs.declared.graph.Graph.{Graph}
use Rattle.cert_text.specs.declared.cert.CertEnd.TheVariants as text
use Rattle.cert_text.specs.View.{Certificate}
use Rattle.cert_text.specs.Allowed.{IsAllowed}
use Rattle.cert_text.specs.Text.{spelling}
use Rattle.cert_text.specs.Texts.{RefusedBy}
use Rattle.commands.specs.Checker.CheckEnd.TheVariants as check
use Rattle.commands.specs.Checker.Checking.{Accepts, Refuses}
use Rattle.commands.specs.Alarms.{alarms_of}
use Rattle.commands.specs.Answer.{Answer, Absent, CertificateLong, CertificateBad, CertificateMisfit, NotInductive, Report, HoldsProgram, AnswersSource}

-- ---- the certificate

abbrev pub certificate_limit : ℕ
certificate_limit = 67108864

-- the file holds this certificate's text
pub record HoldsCertificate (contents : Contents) (name : List ℕ) (c : Certificate) : Type 0 where
  pub allowed : IsAllowed c
  pub held : get contents name ≡ Some (spelling c)
  pub fits : length (spelling c) ≤ certificate_limit

-- ---- the answer

-- A refusal of a certificate that reads, or the statements that it leaves open.
abbrev pub AnswersCertificate : Program → Graph → Certificate → Answer → Type 0
AnswersCertificate p g c (CertificateMisfit what found wanted) = Refuses p g c (check.Shape what found wanted)
AnswersCertificate p g c (NotInductive layer edge gap) = Refuses p g c (check.NotInductive layer edge gap)
AnswersCertificate p g c (Report alarms) =
    (pairs : List Open) × Accepts p g c pairs × (alarms ≡ alarms_of p pairs)
AnswersCertificate p g c _ = ⊥

-- What the file with the certificate shows of the program, or why it isn't read.
abbrev pub AnswersProgram : Contents → List ℕ → Program → Graph → Answer → Type 0
AnswersProgram contents certificate p g (Absent name) = (get contents certificate ≡ None) × (name ≡ certificate)
AnswersProgram contents certificate p g CertificateLong =
    IsSomeAnd (get contents certificate) (λ bytes. certificate_limit < length bytes)
AnswersProgram contents certificate p g (CertificateBad line) =
    IsSomeAnd (get contents certificate) (λ bytes. (length bytes ≤ certificate_limit) × RefusedBy bytes (text.Syntax line))
AnswersProgram contents certificate p g answer =
    (c : Certificate) × HoldsCertificate contents certificate c × AnswersCertificate p g c answer

abbrev pub AnswersCheck : Contents → List ℕ → List ℕ → Answer → Type 0
AnswersCheck contents source certificate answer =
    AnswersSource contents source answer
    ⊎ ((p : Program) × (g : Graph) × HoldsProgram contents source p g
    × AnswersProgram contents certificate p g answer)
