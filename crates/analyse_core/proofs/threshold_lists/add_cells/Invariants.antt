use Rattle.std.proofs.Common.{◌≡◌, ◌++◌, drop}
use Rattle.analyse_core.specs.Mentions.{lists_of}
use Rattle.analyse_core.specs.PackThresholds.{cells_thresholds}
use Rattle.analyse_core.proofs.threshold_lists.add_cells.Given as goal

abbrev pub invariant-loop-number : goal.invariant-loop-number
invariant-loop-number l =
    l.list.items ++ cells_thresholds l.cells (lists_of l.lists) l.decimals (drop l.number-index l.numbers)
    ≡ l.initial.list.items ++ cells_thresholds l.cells (lists_of l.lists) l.decimals l.numbers
