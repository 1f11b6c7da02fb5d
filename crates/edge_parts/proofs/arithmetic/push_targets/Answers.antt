use Rattle.std.proofs.Common.{ap, arith}
use Rattle.std.proofs.lemmas.List.{drop_all, drop_more}
use Rattle.cob_program.specs.SumView.{plain_sum}
use Rattle.cob_edge_parts.specs.Parts.{targets_parts}
use Rattle.edge_parts.specs.PartView.{plain_part}
use Rattle.edge_parts.proofs.HandingLaws.{leads_on, leads_out, leads_past}
use Rattle.edge_parts.proofs.arithmetic.push_targets.Goals as goal

pub loop-target-preserved : goal.loop-target-preserved
loop-target-preserved c =
    leads_on plain_part _ _ _ _ _ _ _ (ap (targets_parts (plain_sum c.args.common.now)) (drop_more c.args.targets.now c.loop-target.target-index _ c.loop-target-test.true)) c.loop-target.invariant c.in_ok-push_target.ensures

pub returns-in_err-push_target : goal.returns-in_err-push_target
returns-in_err-push_target c =
    rw c.from_residual.ensures
    (leads_out plain_part _ _ _ _ _ _ _ (ap (targets_parts (plain_sum c.args.common.now)) (drop_more c.args.targets.now c.loop-target.target-index _ c.loop-target-test.true)) c.loop-target.invariant c.in_err-push_target.ensures)

pub returns : goal.returns
returns c =
    leads_past plain_part _ _ _ _ (ap (λ ys. targets_parts (plain_sum c.args.common.now) ys) (drop_all c.loop-target.target-index c.args.targets.now (omega arith))) c.loop-target.invariant
