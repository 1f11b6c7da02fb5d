use Rattle.layer_driver.proofs.Numbers.{RiseTo}
use Rattle.layer_driver.proofs.packs.numbers_of.Given as goal

abbrev pub invariant-loop-part : goal.invariant-loop-part
invariant-loop-part l = RiseTo l.cells l.last l.numbers.items
