use Rattle.cob_program.specs.SumView.{plain_sum}
use Rattle.edge_parts.proofs.DivisorLemmas.{some_of, divisors_cut}
use Rattle.edge_parts.specs.PartView.{plain_part}
use Rattle.edge_parts.proofs.HandingLaws.{both_of, stops_of}
use Rattle.edge_parts.proofs.arithmetic.push_divisors_of.Goals as goal

pub returns-in_err-push_divisors : goal.returns-in_err-push_divisors
returns-in_err-push_divisors c =
    rw c.from_residual.ensures
    (stops_of plain_part _ _ _ _ _ (divisors_cut (plain_sum c.args.common.now) c.args.targets.now (some_of _ _ c.is_empty.ensures c.if-is_empty.false)) c.in_err-push_divisors.ensures)

pub returns : goal.returns
returns c =
    both_of plain_part _ _ _ _ _ _ _ (divisors_cut (plain_sum c.args.common.now) c.args.targets.now (some_of _ _ c.is_empty.ensures c.if-is_empty.false))
    c.in_ok-push_divisors.ensures c.push_whole_divisor.ensures
