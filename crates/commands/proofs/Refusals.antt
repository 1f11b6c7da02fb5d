-- What is answered to a source that isn't read.
use Rattle.std.proofs.Common.{◌≡◌, ℕ, false, List, ◌⊎◌, refl, sym, ap, ◌∙◌, subst, inl, inr, Result, Ok, Err}
use Rattle.std.specs.Prelude.{IfOk, IfSome, Option, Some, None}
use Rattle.std.specs.FinMap.{get}
use Rattle.batch_io.specs.FilesState.{Contents}
use Rattle.cob_front.specs.declared.refusal.Refusal.{Refusal}
use Rattle.cob_front.specs.declared.refusal.Refusal.TheVariants as end
use Rattle.commands.specs.declared.answer.Stop.{Stop}
use Rattle.commands.specs.declared.answer.Stop.TheVariants as stop
use Rattle.commands.specs.declared.answer.Answer as code
use Rattle.commands.specs.Profile.{IsProfileCause}
use Rattle.commands.specs.Answer.{Answer, Refused, AnswersSource, is_usage}
use Rattle.commands.specs.Steps.{stopped_by_fault, answer_to}
use Rattle.commands.specs.View.{plain_answer, plain_result}
use Rattle.commands.proofs.Found.{at_held}

-- the answer to a cause tells it
pub answered : (cause : Refusal) (answer : Answer) → answer_to cause ≡ Ok answer → Refused cause ≡ answer
answered end.TooLong answer e = cc
answered (end.BadLine line column) answer e = cc
answered (end.BadToken line column) answer e = cc
answered (end.Syntax line) answer e = cc
answered (end.Nesting count) answer e = cc
answered (end.Outside rule line) answer e = cc
answered (end.Limit which count) answer e = cc
answered end.Memory answer e = absurd (cc e)

pub not_memory : (cause : Refusal) (answer : Answer) → answer_to cause ≡ Ok answer → cause ≡ end.Memory → ⊥
not_memory cause answer e memory = let f = ap answer_to (sym memory) ∙ e in cc

module _ (source bytes : List ℕ) where
  refused_known : (known : Option Contents) (answer : Answer) (cause : Refusal)
      → IfSome known (λ contents. get contents source ≡ Some bytes)
      → IsProfileCause bytes cause → Refused cause ≡ answer
      → IfSome known (λ contents. AnswersSource contents source answer)
  refused_known None answer cause held is e = tt
  refused_known (Some contents) answer cause held is e =
      subst (λ (a : Answer). AnswersSource contents source a) e
      (at_held (get contents source) bytes (λ bs. IsProfileCause bs cause) held is)

  pub answers_refused : (result : Result code.Answer Stop) (cause : Refusal) (seen : List ℕ) (known : Option Contents)
      → IfSome known (λ contents. get contents source ≡ Some bytes)
      → seen ≡ bytes → IsProfileCause seen cause ⊎ (cause ≡ end.Memory) → plain_result result ≡ answer_to cause
      → IfOk result (λ answer. IfSome known (λ contents. AnswersSource contents source (plain_answer answer)))
  answers_refused (Err stop) cause seen known held same is e = tt
  answers_refused (Ok answer) cause seen known held same (inr memory) e =
      absurd (not_memory cause (plain_answer answer) (sym e) memory)
  answers_refused (Ok answer) cause seen known held same (inl is) e =
      refused_known known (plain_answer answer) cause held (subst (λ (bs : List ℕ). IsProfileCause bs cause) same is)
      (answered cause (plain_answer answer) (sym e))

-- the answer to a cause isn't that of words
pub no_usage : (result : Result code.Answer Stop) (cause : Refusal) → plain_result result ≡ answer_to cause
    → IfOk result (λ answer. is_usage (plain_answer answer) ≡ false)
no_usage (Err stop) cause e = tt
no_usage (Ok answer) cause e = sym (ap is_usage (answered cause (plain_answer answer) (sym e)))

-- the answer to a cause isn't a fault of the outside
pub no_fault : (result : Result code.Answer Stop) (cause : Refusal) → plain_result result ≡ answer_to cause
    → stopped_by_fault result ≡ false
no_fault (Ok answer) cause e = refl
no_fault (Err stop.ReadFault) cause e = absurd (no_read_fault cause (sym e))
  where
    no_read_fault : (cause : Refusal) → answer_to cause ≡ Err stop.ReadFault → ⊥
    no_read_fault end.TooLong f = cc
    no_read_fault (end.BadLine line column) f = cc
    no_read_fault (end.BadToken line column) f = cc
    no_read_fault (end.Syntax line) f = cc
    no_read_fault (end.Nesting count) f = cc
    no_read_fault (end.Outside rule line) f = cc
    no_read_fault (end.Limit which count) f = cc
    no_read_fault end.Memory f = cc
no_fault (Err stop.Memory) cause e = refl
