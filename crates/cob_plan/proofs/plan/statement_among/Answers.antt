use Rattle.std.proofs.Common.{arith}
use Rattle.std.proofs.lemmas.Option.{slice_get-get_or}
use Rattle.cob_plan.proofs.Among.{none_at, none_listed}
use Rattle.cob_plan.proofs.plan.statement_among.Goals as goal

pub loop-place-init : goal.loop-place-init
loop-place-init c i s below at its = absurd (omega (arith, below))

pub loop-place-preserved : goal.loop-place-preserved
loop-place-preserved c =
    none_at c.args.statements.now c.args.number c.loop-place.place _
    (slice_get-get_or c.args.statements.now c.loop-place.place c.index-statements-place.result c.loop-place-test.true)
    c.if-statements-place.false c.loop-place.invariant

pub returns-clause-listed : goal.returns-clause-listed
returns-clause-listed c listed =
    absurd (none_listed c.args.statements.now c.args.number
    (λ i s below at its. c.loop-place.invariant i s (omega (arith, below, c.loop-place-test.false)) at its) listed)
