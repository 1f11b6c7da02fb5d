use Rattle.std.proofs.Common.{◌≡◌, ◌++◌, drop, map}
use Rattle.analyse_core.specs.Mentions.{lists_of}
use Rattle.analyse_core.specs.Choice.{numbers_of}
use Rattle.analyse_core.specs.PackThresholds.{thresholds_of_pack}
use Rattle.analyse_core.proofs.threshold_lists.thresholds_of.Given as goal

abbrev pub invariant-loop-pack : goal.invariant-loop-pack
invariant-loop-pack l =
    lists_of l.thresholds.items ++ map (thresholds_of_pack l.cells (lists_of l.lists)) (numbers_of (drop l.pack-index l.packs))
    ≡ map (thresholds_of_pack l.cells (lists_of l.lists)) (numbers_of l.packs)
