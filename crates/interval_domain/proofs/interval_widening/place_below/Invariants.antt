use Rattle.std.proofs.Common.{ℕ, ◌<◌, pos, ◌≤ℤ◌, length, get_or}
use Rattle.interval_domain.proofs.interval_widening.place_below.Given as goal

abbrev pub invariant-loop-k : goal.invariant-loop-k
invariant-loop-k l = record {
  within : l.nearest < length l.thresholds;
  below : get_or l.thresholds l.nearest (pos 0) ≤ℤ l.z;
  nearest : (k : ℕ) → k < l.k → get_or l.thresholds k (pos 0) ≤ℤ l.z → get_or l.thresholds k (pos 0) ≤ℤ get_or l.thresholds l.nearest (pos 0);
}
