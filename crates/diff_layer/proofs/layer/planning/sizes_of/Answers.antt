use Rattle.std.proofs.Common.{ap, ◌∙◌}
use Rattle.std.proofs.lemmas.List.{take_all}
use Rattle.diff_layer.specs.Planning.{sizes_in}
use Rattle.diff_layer.proofs.Steps.{size_pushed}
use Rattle.diff_layer.proofs.layer.planning.sizes_of.Goals as goal

pub loop-pack-preserved : goal.loop-pack-preserved
loop-pack-preserved c =
    let l = c.loop-pack in
    size_pushed _ _ _ c.args.packs.now l.pack-index c.pack-item.result c.loop-pack-test.true c.pack-item.is c.in_ok-push.ensures.items l.invariant c.size_of.ensures

pub returns : goal.returns
returns c = let l = c.loop-pack in l.invariant ∙ ap sizes_in (take_all l.pack-index c.args.packs.now c.loop-pack-test.false)
