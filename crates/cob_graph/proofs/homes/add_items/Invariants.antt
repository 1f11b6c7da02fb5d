use Rattle.std.proofs.Common.{◌≡◌, ◌++◌, drop}
use Rattle.cob_graph.specs.Homes.{item_homes}
use Rattle.cob_graph.proofs.homes.add_items.Given as goal

abbrev pub invariant-loop-item : goal.invariant-loop-item
invariant-loop-item l = l.homes.items ++ item_homes l.place (drop l.item-index l.items) ≡ l.initial.homes.items ++ item_homes 0 l.initial.items
