use Rattle.std.proofs.Common.{ap, arith}
use Rattle.std.proofs.lemmas.List.{drop_all}
use Rattle.cob_program.specs.LogicView.{plain_logics}
use Rattle.cob_runs.specs.Effects.{tests_among}
use Rattle.edge_parts.specs.PartView.{plain_reference}
use Rattle.edge_parts.proofs.TestLoops.{logic_first}
use Rattle.edge_parts.proofs.HandingLaws.{leads_on, leads_out, leads_past}
use Rattle.edge_parts.proofs.tests_of.+logic.Goals as goal

pub push_among-loop-part-preserved : goal.push_among-loop-part-preserved
push_among-loop-part-preserved t c =
    leads_on plain_reference _ _ _ _ _ _ _ (logic_first c.args.parts.now c.loop-part.part-index c.part-item.result c.loop-part-test.true c.part-item.is) c.loop-part.invariant c.in_ok-push_of.ensures

pub push_among-returns-in_err-push_of : goal.push_among-returns-in_err-push_of
push_among-returns-in_err-push_of t c =
    rw c.from_residual.ensures
    (leads_out plain_reference _ _ _ _ _ _ _ (logic_first c.args.parts.now c.loop-part.part-index c.part-item.result c.loop-part-test.true c.part-item.is) c.loop-part.invariant c.in_err-push_of.ensures)

pub push_among-returns : goal.push_among-returns
push_among-returns t c =
    leads_past plain_reference _ _ _ _ (ap (λ ys. tests_among (plain_logics ys)) (drop_all c.loop-part.part-index c.args.parts.now (omega arith))) c.loop-part.invariant
