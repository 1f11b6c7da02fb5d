use Rattle.std.proofs.Common.{sym}
use Rattle.cob_program.specs.SumView.{plain_sum}
use Rattle.cob_calc.proofs.OperandLemmas.{part_worked}
use Rattle.cob_calc.proofs.contents.Contents.operands.Goals as goal

pub returns-then-not-wants_whole : goal.returns-then-not-wants_whole
returns-then-not-wants_whole c =
    part_worked c.args.self.now (plain_sum c.args.common.now) c.args.targets.now c.args.remainder _ _ c.total.ensures (sym c.if-not-wants_whole.ensures) c.worked_part.ensures
