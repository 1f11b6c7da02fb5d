use Rattle.std.proofs.Common.{ap, arith}
use Rattle.std.proofs.lemmas.List.{drop_all}
use Rattle.cob_program.specs.ActView.{plain_whens}
use Rattle.cob_runs.specs.Effects.{tests_in_whens}
use Rattle.edge_parts.specs.PartView.{plain_reference}
use Rattle.edge_parts.proofs.TestLoops.{when_first}
use Rattle.edge_parts.proofs.HandingLaws.{leads_on, leads_out, leads_past}
use Rattle.edge_parts.proofs.tests_of.push_in_whens.Goals as goal

pub loop-when-preserved : goal.loop-when-preserved
loop-when-preserved c =
    leads_on plain_reference _ _ _ _ _ _ _ (when_first c.args.whens.now c.loop-when.when-index c.when-item.result c.loop-when-test.true c.when-item.is) c.loop-when.invariant c.in_ok-push_in_when.ensures

pub returns-in_err-push_in_when : goal.returns-in_err-push_in_when
returns-in_err-push_in_when c =
    rw c.from_residual.ensures
    (leads_out plain_reference _ _ _ _ _ _ _ (when_first c.args.whens.now c.loop-when.when-index c.when-item.result c.loop-when-test.true c.when-item.is) c.loop-when.invariant c.in_err-push_in_when.ensures)

pub returns : goal.returns
returns c =
    leads_past plain_reference _ _ _ _ (ap (λ ys. tests_in_whens (plain_whens ys)) (drop_all c.loop-when.when-index c.args.whens.now (omega arith))) c.loop-when.invariant
