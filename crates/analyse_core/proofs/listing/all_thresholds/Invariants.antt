use Rattle.std.proofs.Common.{◌≡◌}
use Rattle.std.specs.Prelude.{take}
use Rattle.interval_domain.specs.Rows.{lists_of}
use Rattle.analyse_core.specs.Literals.{numbers_of}
use Rattle.analyse_core.specs.Thresholds.{thresholds_for}
use Rattle.analyse_core.proofs.listing.all_thresholds.Given as goal

abbrev pub invariant-loop-k : goal.invariant-loop-k
invariant-loop-k l = lists_of l.lists.items ≡ thresholds_for (numbers_of l.literals) (take l.k l.cells)
