use Rattle.std.proofs.Common.{◌≡◌, ◌≤◌, ◌+◌, drop}
use Rattle.cob_data.specs.Rules.{count_items}
use Rattle.cob_data.proofs.limits.count_items.Given as goal

abbrev pub invariant-loop-place : goal.invariant-loop-place
invariant-loop-place l = record {
  same : l.count + count_items (drop l.place l.items) (drop l.place l.spots) ≡ count_items l.items l.spots;
  few : l.count ≤ l.place;
}
