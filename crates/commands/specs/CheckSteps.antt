-- What the parts of a check do.
use Rattle.std.specs.Prelude.{◌≡◌, ℕ, List}
use Rattle.cob_program.specs.Act.{Program}
use Rattle.cob_graph.specs.declared.graph.Graph.{Graph}
use Rattle.cert_text.specs.declared.cert.CertEnd.TheVariants as text
use Rattle.cert_text.specs.View.{Certificate}
use Rattle.cert_text.specs.Allowed.{IsAllowed}
use Rattle.cert_text.specs.Text.{spelling}
use Rattle.cert_text.specs.Texts.{RefusedBy}
use Rattle.commands.specs.Answer.{Answer, CertificateBad}
use Rattle.commands.specs.CheckAnswers.{AnswersCertificate}

-- the answer to a certificate of these bytes
abbrev pub AnswersBytes : List ℕ → Program → Graph → Answer → Type 0
AnswersBytes bytes p g (CertificateBad line) = RefusedBy bytes (text.Syntax line)
AnswersBytes bytes p g answer =
    (c : Certificate) × IsAllowed c × (bytes ≡ spelling c) × AnswersCertificate p g c answer
