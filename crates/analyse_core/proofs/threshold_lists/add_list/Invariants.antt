use Rattle.std.proofs.Common.{◌≡◌, ◌++◌, drop}
use Rattle.analyse_core.specs.PackThresholds.{list_thresholds}
use Rattle.analyse_core.proofs.threshold_lists.add_list.Given as goal

abbrev pub invariant-loop-threshold : goal.invariant-loop-threshold
invariant-loop-threshold l =
    l.list.items ++ list_thresholds l.units (drop l.threshold-index l.thresholds)
    ≡ l.initial.list.items ++ list_thresholds l.units l.thresholds
