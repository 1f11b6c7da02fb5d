use Rattle.std.proofs.Common.{◌≡◌, drop}
use Rattle.std.specs.List.{fold}
use Rattle.analyse_core.specs.Literals.{numbers_of}
use Rattle.analyse_core.specs.Thresholds.{noted_beside}
use Rattle.analyse_core.proofs.listing.note_literals.Given as goal

abbrev pub invariant-loop-number : goal.invariant-loop-number
invariant-loop-number l =
    fold (noted_beside l.own l.scale) l.list.items (numbers_of (drop l.number-index l.literals))
    ≡ fold (noted_beside l.own l.scale) l.initial.list.items (numbers_of l.initial.literals)
