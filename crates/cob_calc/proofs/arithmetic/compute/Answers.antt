use Rattle.std.proofs.Common.{subst}
use Rattle.cob_program.specs.SumView.{plain_sum}
use Rattle.cob_calc.specs.Contents.{contents}
use Rattle.cob_calc.specs.Receiving.{IsReceived, IsWorked}
use Rattle.cob_calc.proofs.StatementLemmas.{statement_is, receivers_can, rest_can}
use Rattle.cob_calc.proofs.arithmetic.compute.Goals as goal

pub receive-requires-clause-receivers : goal.receive-requires-clause-receivers
receive-requires-clause-receivers c =
    receivers_can (contents c.args.layout.now c.args.storage.now) (plain_sum c.args.common.now) c.args.targets.now c.args.remainder c.in-Some.worked
    (record { items = c.requires.sound; whole = c.requires.whole }) c.requires.can
    (subst (λ x. IsWorked x (plain_sum c.args.common.now) c.args.targets.now c.args.remainder c.in-Some.worked) c.of.ensures c.in-Some.ensures)

pub receive-requires-clause-rest : goal.receive-requires-clause-rest
receive-requires-clause-rest c =
    rest_can (contents c.args.layout.now c.args.storage.now) (plain_sum c.args.common.now) c.args.targets.now c.args.remainder c.in-Some.worked
    (record { items = c.requires.sound; whole = c.requires.whole }) c.requires.can
    (subst (λ x. IsWorked x (plain_sum c.args.common.now) c.args.targets.now c.args.remainder c.in-Some.worked) c.of.ensures c.in-Some.ensures)

pub returns-in-Some : goal.returns-in-Some
returns-in-Some c =
    subst (IsReceived c.receive.result c.receive.new.storage)
    (statement_is (contents c.args.layout.now c.args.storage.now) c.args.phrase (plain_sum c.args.common.now) c.args.targets.now c.args.remainder c.in-Some.worked c.requires.can
    (subst (λ x. IsWorked x (plain_sum c.args.common.now) c.args.targets.now c.args.remainder c.in-Some.worked) c.of.ensures c.in-Some.ensures))
    c.receive.ensures
