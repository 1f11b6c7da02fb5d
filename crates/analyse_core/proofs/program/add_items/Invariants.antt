use Rattle.std.proofs.Common.{◌≡◌, ◌++◌, drop}
use Rattle.analyse_core.specs.Literals.{numbers_of, items_literals}
use Rattle.analyse_core.proofs.program.add_items.Given as goal

abbrev pub invariant-loop-place : goal.invariant-loop-place
invariant-loop-place l =
    numbers_of l.literals.items ++ items_literals l.flags l.place (drop l.place l.items)
    ≡ numbers_of l.initial.literals.items ++ items_literals l.initial.flags 0 l.initial.items
