use Rattle.std.proofs.Common.{◌∙◌, ap}
use Rattle.rule_order.specs.Order.{first_broken}
use Rattle.cob_typed.specs.Typing.{typing_rules}
use Rattle.cob_typed.specs.Answer.{lines_in}
use Rattle.cob_typed.proofs.AnswerLemmas.{outside_answer, outside_refused, outside_accepted, typed_answer, typed_refused, program_is}
use Rattle.cob_typed.proofs.typing.answer_of.Goals as goal

pub returns-in-Some-clause-answer : goal.returns-in-Some-clause-answer
returns-in-Some-clause-answer c = λ t is.
    outside_answer c.args.layout.now t c.args.typed is c.in-Some.rule c.in-Some.line (c.in-Some.ensures ∙ ap (λ fs. first_broken (lines_in fs) typing_rules) c.deref.ensures.value)

pub returns-in-Some-clause-outside : goal.returns-in-Some-clause-outside
returns-in-Some-clause-outside c = λ t is rule line broken.
    outside_refused c.args.layout.now t c.args.typed is c.in-Some.rule c.in-Some.line (c.in-Some.ensures ∙ ap (λ fs. first_broken (lines_in fs) typing_rules) c.deref.ensures.value) rule line broken

pub returns-in-Some-clause-accepted : goal.returns-in-Some-clause-accepted
returns-in-Some-clause-accepted c = λ t is kept.
    outside_accepted c.args.layout.now t c.args.typed is c.in-Some.rule c.in-Some.line (c.in-Some.ensures ∙ ap (λ fs. first_broken (lines_in fs) typing_rules) c.deref.ensures.value) kept

pub returns-in-Ok-clause-answer : goal.returns-in-Ok-clause-answer
returns-in-Ok-clause-answer c = λ t is. (
  typed_answer c.args.layout.now t c.args.typed is (c.in-None.ensures ∙ ap (λ fs. first_broken (lines_in fs) typing_rules) c.deref.ensures.value),
  program_is c.args.layout.now t c.args.typed is c.in-Ok.program c.in-Ok.ensures.layout c.in-Ok.ensures.paras c.in-Ok.ensures.statements,
)

pub returns-in-Ok-clause-outside : goal.returns-in-Ok-clause-outside
returns-in-Ok-clause-outside c = λ t is rule line broken.
    typed_refused c.args.layout.now t c.args.typed is (c.in-None.ensures ∙ ap (λ fs. first_broken (lines_in fs) typing_rules) c.deref.ensures.value) rule line broken
