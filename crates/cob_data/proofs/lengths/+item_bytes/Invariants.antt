use Rattle.std.proofs.Common.{◌≡◌, ◌≤◌, ◌+◌, ◌*◌, ◌^◌, length}
use Rattle.cob_data.specs.Lengths.{forest, extent}
use Rattle.cob_data.proofs.lengths.+item_bytes.Given as goal

abbrev pub decreases-item_bytes : goal.decreases-item_bytes
decreases-item_bytes l = length l.below.now

abbrev pub invariant-loop-rest : goal.invariant-loop-rest
invariant-loop-rest l = record {
  fewer : length l.rest ≤ length l.below;
  same : l.total + extent (forest l.rest) ≡ extent (forest l.below);
  within : l.total + length l.rest * 2 ^ 32 ≤ length l.below * 2 ^ 32;
}

abbrev pub decreases-loop-rest : goal.decreases-loop-rest
decreases-loop-rest l = length l.rest
