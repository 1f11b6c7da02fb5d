use Rattle.std.proofs.Common.{ap, map, arith}
use Rattle.std.proofs.lemmas.List.{drop_all}
use Rattle.cob_program.specs.LogicView.{plain_logic}
use Rattle.cob_runs.specs.Effects.{tests_in_list}
use Rattle.edge_parts.specs.PartView.{plain_reference}
use Rattle.edge_parts.proofs.TestLoops.{listed_first}
use Rattle.edge_parts.proofs.HandingLaws.{leads_on, leads_out, leads_past}
use Rattle.edge_parts.proofs.tests_of.push_in_list.Goals as goal

pub loop-logic-preserved : goal.loop-logic-preserved
loop-logic-preserved c =
    leads_on plain_reference _ _ _ _ _ _ _ (listed_first c.args.list.now c.loop-logic.logic-index c.logic-item.result c.loop-logic-test.true c.logic-item.is) c.loop-logic.invariant c.in_ok-push_of.ensures

pub returns-in_err-push_of : goal.returns-in_err-push_of
returns-in_err-push_of c =
    rw c.from_residual.ensures
    (leads_out plain_reference _ _ _ _ _ _ _ (listed_first c.args.list.now c.loop-logic.logic-index c.logic-item.result c.loop-logic-test.true c.logic-item.is) c.loop-logic.invariant c.in_err-push_of.ensures)

pub returns : goal.returns
returns c =
    leads_past plain_reference _ _ _ _ (ap (λ ys. tests_in_list (map plain_logic ys)) (drop_all c.loop-logic.logic-index c.args.list.now (omega arith))) c.loop-logic.invariant
