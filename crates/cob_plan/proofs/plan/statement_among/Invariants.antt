use Rattle.cob_plan.proofs.Among.{NoneSooner}
use Rattle.cob_plan.proofs.plan.statement_among.Given as goal

abbrev pub invariant-loop-place : goal.invariant-loop-place
invariant-loop-place l = NoneSooner l.statements l.number l.place
