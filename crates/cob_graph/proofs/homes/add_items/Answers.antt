use Rattle.std.proofs.Common.{◌+◌, drop, ap}
use Rattle.std.proofs.lemmas.List.{drop_all}
use Rattle.cob_program.proofs.Loops.{added, nothing_left}
use Rattle.cob_graph.specs.Homes.{item_homes}
use Rattle.cob_graph.proofs.HomeLemmas.{items_step}
use Rattle.cob_graph.proofs.homes.add_items.Goals as goal

pub loop-item-preserved : goal.loop-item-preserved
loop-item-preserved c =
    let l = c.loop-item in
    added _ _ _ (item_homes c.in_ok-place.place (drop (l.item-index + 1) c.args.items.now)) _ _ c.in_ok-add_item.ensures
    (items_step c.args.items.now l.item-index l.place c.in_ok-place.place c.item-item.result c.loop-item-test.true
    c.item-item.is c.in_ok-place.ensures) l.invariant

pub returns : goal.returns
returns c =
    let l = c.loop-item in
    nothing_left _ _ (item_homes l.place (drop l.item-index c.args.items.now))
    (ap (item_homes l.place) (drop_all l.item-index c.args.items.now c.loop-item-test.false)) l.invariant
