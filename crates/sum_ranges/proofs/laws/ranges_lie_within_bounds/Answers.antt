use Rattle.sum_ranges.proofs.Bounded.{sum_range_within, atom_range_within}
use Rattle.sum_ranges.proofs.laws.ranges_lie_within_bounds.Goals as goal

pub returns : goal.returns
returns c = record {
  sum = λ range bound held. sum_range_within range bound held;
  atom = λ range bound held. atom_range_within range bound held;
}
