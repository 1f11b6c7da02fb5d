use Rattle.std.proofs.Common.{subst}
use Rattle.std.proofs.lemmas.List.{take_all}
use Rattle.diff_layer.specs.Planning.{ArePlansFor}
use Rattle.diff_layer.proofs.Steps.{plan_pushed}
use Rattle.diff_layer.proofs.layer.planning.plans_for.Goals as goal

pub loop-pack-preserved : goal.loop-pack-preserved
loop-pack-preserved c =
    let l = c.loop-pack in
    plan_pushed c.args.layout.now c.args.homes.now _ _ _ c.args.packs.now l.pack-index c.pack-item.result c.loop-pack-test.true c.pack-item.is
    c.in_ok-push.ensures.items l.invariant c.in_ok-plan_for.ensures

pub returns : goal.returns
returns c =
    let l = c.loop-pack in
    subst (λ packs. ArePlansFor c.args.layout.now c.args.homes.now packs l.plans.items)
    (take_all l.pack-index c.args.packs.now c.loop-pack-test.false) l.invariant
