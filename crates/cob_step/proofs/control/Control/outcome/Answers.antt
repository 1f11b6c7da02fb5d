use Rattle.std.proofs.Common.{◌∙◌, sym}
use Rattle.cob_step.proofs.Entering.{nothing_left, something_left, is_empty, is_not_empty}
use Rattle.cob_step.proofs.control.Control.outcome.Goals as goal

pub returns-then-is_empty : goal.returns-then-is_empty
returns-then-is_empty c = λ p choice w. nothing_left p choice w _
    (is_empty c.args.self.now c.as_slice.result.now c.as_slice.ensures.value (sym c.is_empty.ensures ∙ c.if-is_empty.true))

pub returns-else-is_empty : goal.returns-else-is_empty
returns-else-is_empty c = λ p choice w. something_left p choice w _
    (is_not_empty c.args.self.now c.as_slice.result.now c.as_slice.ensures.value
    (sym c.is_empty.ensures ∙ c.if-is_empty.false))
