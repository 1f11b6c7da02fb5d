use Rattle.std.proofs.Common.{◌+◌, ap, ◌∙◌, drop, map}
use Rattle.std.proofs.lemmas.List.{drop_all}
use Rattle.cob_program.proofs.Loops.{item_step, nothing_left}
use Rattle.analyse_core.specs.Mentions.{lists_of}
use Rattle.analyse_core.specs.Choice.{numbers_of}
use Rattle.analyse_core.specs.PackThresholds.{thresholds_of_pack}
use Rattle.analyse_core.proofs.Pushing.{list_pushed}
use Rattle.analyse_core.proofs.threshold_lists.thresholds_of.Goals as goal

pub loop-pack-preserved : goal.loop-pack-preserved
loop-pack-preserved c =
    let l = c.loop-pack in
    let lists = lists_of c.args.lists.now in
    list_pushed _ _ _ _ (map (thresholds_of_pack c.args.cells.now lists) (numbers_of (drop (l.pack-index + 1) c.args.packs.now))) _ _
    c.in_ok-push.ensures.items
    (c.in_ok-thresholds_of_pack.ensures ∙ ap (thresholds_of_pack c.args.cells.now lists) c.as_slice.ensures.value)
    (ap (λ xs. map (thresholds_of_pack c.args.cells.now lists) (numbers_of xs))
    (item_step c.args.packs.now l.pack-index c.pack-item.result c.loop-pack-test.true c.pack-item.is))
    l.invariant

pub returns : goal.returns
returns c =
    let l = c.loop-pack in
    let lists = lists_of c.args.lists.now in
    nothing_left _ _ (map (thresholds_of_pack c.args.cells.now lists) (numbers_of (drop l.pack-index c.args.packs.now)))
    (ap (λ xs. map (thresholds_of_pack c.args.cells.now lists) (numbers_of xs)) (drop_all l.pack-index c.args.packs.now c.loop-pack-test.false))
    l.invariant
