use Rattle.std.proofs.Common.{◌≡◌, max, drop}
use Rattle.analyse_core.specs.PackThresholds.{finest}
use Rattle.analyse_core.proofs.threshold_lists.finest.Given as goal

abbrev pub invariant-loop-number : goal.invariant-loop-number
invariant-loop-number l = max l.decimals (finest l.cells (drop l.number-index l.numbers)) ≡ finest l.cells l.numbers
