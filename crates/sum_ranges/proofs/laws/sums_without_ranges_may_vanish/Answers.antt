use Rattle.sum_ranges.proofs.Vanish.{sum_missing}
use Rattle.sum_ranges.proofs.laws.sums_without_ranges_may_vanish.Goals as goal

pub returns : goal.returns
returns c = λ range ordered. sum_missing range ordered
