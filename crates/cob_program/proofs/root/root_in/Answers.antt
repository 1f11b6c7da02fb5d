use Rattle.cob_program.proofs.Roots.{root_over, root_not_over}
use Rattle.cob_program.proofs.root.root_in.Goals as goal

pub returns-then-divisor : goal.returns-then-divisor
returns-then-divisor c = root_over c.args.factors.now c.in-Some.dividend.now c.in-Some.divisor.now c.in-Some.ensures.cases.0 c.if-divisor.true

pub returns-else-divisor : goal.returns-else-divisor
returns-else-divisor c = root_not_over c.args.factors.now c.in-Some.dividend.now c.in-Some.divisor.now c.in-Some.ensures.cases.0 c.if-divisor.false
