-- What `check` answers follows from the bytes of a certificate, and from a source that is read or isn't.
use Rattle.std.proofs.Common.{◌≡◌, ℕ, ◌≤◌, false, List, length, refl, ap, ◌∙◌, subst, inl, inr, Result, Ok, Err}
use Rattle.std.specs.Prelude.{IfOk, IfSome, MatchResult, Option, Some, None}
use Rattle.std.specs.FinMap.{get}
use Rattle.batch_io.specs.FilesState.{Contents}
use Rattle.cob_program.specs.Act.{Program}
use Rattle.cob_program.specs.ActView.{plain_program}
use Rattle.cob_graph.specs.declared.graph.Graph.{Graph}
use Rattle.cob_front.specs.declared.refusal.Refusal.TheVariants as end
use Rattle.cert_text.specs.declared.cert.CertEnd.TheVariants as text
use Rattle.cert_text.specs.View.{Certificate}
use Rattle.cert_text.specs.Allowed.{IsAllowed}
use Rattle.cert_text.specs.Text.{spelling}
use Rattle.cert_text.specs.Texts.{RefusedBy}
use Rattle.commands.specs.declared.answer.Stop.{Stop}
use Rattle.commands.specs.declared.answer.Stop.TheVariants as stop
use Rattle.commands.specs.declared.answer.Answer as code
use Rattle.commands.specs.declared.source.Laid.{Laid}
use Rattle.commands.specs.Answer.{Answer, Usage, Absent, Refused, CertificateLong, CertificateBad, CertificateMisfit, NotInductive, Report, AnswersSource, is_usage}
use Rattle.commands.specs.Steps.{HoldsLaid}
use Rattle.commands.specs.View.{plain_answer}
use Rattle.commands.proofs.Found.{at_held}
use Rattle.commands.specs.CheckAnswers.{AnswersCheck, AnswersProgram, HoldsCertificate, certificate_limit}
use Rattle.commands.specs.CheckSteps.{AnswersBytes}

-- ---- the certificate

module _ (p : Program) (g : Graph) (certificate bytes : List ℕ) (fits : length bytes ≤ certificate_limit) where
  bytes_known : (known : Option Contents) (answer : Answer) → IfSome known (λ contents. get contents certificate ≡ Some bytes)
      → AnswersBytes bytes p g answer → IfSome known (λ contents. AnswersProgram contents certificate p g answer)
  bytes_known None answer held h = tt
  bytes_known (Some contents) answer held h = by_text answer h
    where
      holds : (c : Certificate) → IsAllowed c → bytes ≡ spelling c → HoldsCertificate contents certificate c
      holds c allowed same = record {
        allowed = allowed;
        held = held ∙ ap Some same;
        fits = subst (λ (bs : List ℕ). length bs ≤ certificate_limit) same fits;
      }

      by_text : (answer : Answer) → AnswersBytes bytes p g answer → AnswersProgram contents certificate p g answer
      by_text (CertificateBad line) h =
          at_held (get contents certificate) bytes (λ bs. (length bs ≤ certificate_limit) × RefusedBy bs (text.Syntax line)) held (fits, h)
      by_text (CertificateMisfit what found wanted) h = (h.0, holds h.0 h.1 h.2, h.3)
      by_text (NotInductive layer edge gap) h = (h.0, holds h.0 h.1 h.2, h.3)
      by_text (Report alarms) h = (h.0, holds h.0 h.1 h.2, h.3)
      by_text (Usage word) h = absurd h.3
      by_text (Absent name) h = absurd h.3
      by_text (Refused cause) h = absurd h.3
      by_text CertificateLong h = absurd h.3

  -- the answer by the bytes as the code sees them
  pub answers_bytes : (result : Result code.Answer Stop) (seen : List ℕ) (known : Option Contents)
      → IfSome known (λ contents. get contents certificate ≡ Some bytes) → seen ≡ bytes
      → MatchResult result (λ answer. AnswersBytes seen p g (plain_answer answer)) (λ end. end ≡ stop.Memory)
      → IfOk result (λ answer. IfSome known (λ contents. AnswersProgram contents certificate p g (plain_answer answer)))
  answers_bytes (Err end) seen known held same h = tt
  answers_bytes (Ok answer) seen known held same h =
      bytes_known known (plain_answer answer) held (subst (λ (bs : List ℕ). AnswersBytes bs p g (plain_answer answer)) same h)

-- an answer to bytes isn't that of words
module _ (p : Program) (g : Graph) (bytes : List ℕ) where
  no_usage_answer : (answer : Answer) → AnswersBytes bytes p g answer → is_usage answer ≡ false
  no_usage_answer (Usage word) h = absurd h.3
  no_usage_answer _ h = refl

  pub no_usage_of_bytes : (result : Result code.Answer Stop)
      → MatchResult result (λ answer. AnswersBytes bytes p g (plain_answer answer)) (λ end. end ≡ stop.Memory)
      → IfOk result (λ answer. is_usage (plain_answer answer) ≡ false)
  no_usage_of_bytes (Ok answer) h = no_usage_answer (plain_answer answer) h
  no_usage_of_bytes (Err end) h = tt

-- ---- a source that is read

module _ (source certificate : List ℕ) where
  read_known : (known : Option Contents) (laid : Laid) (answer : Answer) → HoldsLaid known source laid
      → IfSome known (λ contents. AnswersProgram contents certificate (plain_program laid.program) laid.graph answer)
      → IfSome known (λ contents. AnswersCheck contents source certificate answer)
  read_known None laid answer holds h = tt
  read_known (Some contents) laid answer holds h =
      inr (
        plain_program laid.program,
        laid.graph,
        record { bytes = holds.bytes; held = holds.held; is_program = holds.is_laid },
        h,
      )

  pub answers_read : (result : Result code.Answer Stop) (laid : Laid) (known after : Option Contents)
      → HoldsLaid known source laid → after ≡ known
      → IfOk result (λ answer. IfSome after (λ contents.
      AnswersProgram contents certificate (plain_program laid.program) laid.graph (plain_answer answer)))
      → IfOk result (λ answer. IfSome known (λ contents. AnswersCheck contents source certificate (plain_answer answer)))
  answers_read (Err end) laid known after holds k h = tt
  answers_read (Ok answer) laid known after holds k h =
      let P : Option Contents → Type 0 = λ known. IfSome known (λ contents.
      AnswersProgram contents certificate (plain_program laid.program) laid.graph (plain_answer answer)) in
      read_known known laid (plain_answer answer) holds (subst P k h)

  source_known : (known : Option Contents) (answer : Answer) → IfSome known (λ contents. AnswersSource contents source answer)
      → IfSome known (λ contents. AnswersCheck contents source certificate answer)
  source_known None answer h = tt
  source_known (Some contents) answer h = inl h

  pub answers_unread : (result : Result code.Answer Stop) (known : Option Contents)
      → IfOk result (λ answer. IfSome known (λ contents. AnswersSource contents source (plain_answer answer)))
      → IfOk result (λ answer. IfSome known (λ contents. AnswersCheck contents source certificate (plain_answer answer)))
  answers_unread (Err stop) known h = tt
  answers_unread (Ok answer) known h = source_known known (plain_answer answer) h
