use Rattle.std.proofs.Common.{ap, arith}
use Rattle.std.proofs.lemmas.List.{drop_all}
use Rattle.cob_edge_parts.specs.Parts.{end_reads}
use Rattle.edge_parts.specs.PartView.{plain_part}
use Rattle.edge_parts.proofs.EndLoops.{ends_first}
use Rattle.edge_parts.proofs.HandingLaws.{leads_on, leads_out, leads_past}
use Rattle.edge_parts.proofs.conditions.push_ends_read.Goals as goal

pub loop-pair-preserved : goal.loop-pair-preserved
loop-pair-preserved c =
    leads_on plain_part _ _ _ _ _ _ _ (ends_first c.args.layout.now c.args.pairs.now c.loop-pair.pair-index c.pair-item.result c.loop-pair-test.true c.pair-item.is) c.loop-pair.invariant c.in_ok-push_pair_read.ensures

pub returns-in_err-push_pair_read : goal.returns-in_err-push_pair_read
returns-in_err-push_pair_read c =
    rw c.from_residual.ensures
    (leads_out plain_part _ _ _ _ _ _ _ (ends_first c.args.layout.now c.args.pairs.now c.loop-pair.pair-index c.pair-item.result c.loop-pair-test.true c.pair-item.is) c.loop-pair.invariant c.in_err-push_pair_read.ensures)

pub returns : goal.returns
returns c =
    leads_past plain_part _ _ _ _ (ap (λ ys. end_reads c.args.layout.now ys) (drop_all c.loop-pair.pair-index c.args.pairs.now (omega arith))) c.loop-pair.invariant
