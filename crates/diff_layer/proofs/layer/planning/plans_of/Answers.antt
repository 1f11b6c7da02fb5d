use Rattle.std.proofs.Common.{◌≡◌, ◌∙◌, subst}
use Rattle.std.specs.Prelude.{IfOk}
use Rattle.cob_program.specs.ActView.{plain_program}
use Rattle.cob_graph.specs.Homes.{homes_of}
use Rattle.diff_layer.specs.Planning.{ArePlansFor}
use Rattle.diff_layer.proofs.layer.planning.plans_of.Goals as goal

pub returns : goal.returns
returns c =
    let p = plain_program c.args.program.now in
    let same : c.as_slice.result.now ≡ homes_of p =
    c.as_slice.ensures.value ∙ c.in_ok-homes.ensures in
    subst (λ homes. IfOk c.plans_for.result (λ plans. ArePlansFor c.args.program.now.layout homes c.args.packs.now plans.items)) same c.plans_for.ensures
