use Rattle.std.proofs.Common.{◌≡◌, ◌≤◌, ◌^◌, min, drop}
use Rattle.cob_data.specs.Values.{value_behind}
use Rattle.cob_data.proofs.values.value.Given as goal

abbrev pub invariant-loop-c : goal.invariant-loop-c
invariant-loop-c l = record {
  same : min (value_behind l.value (drop l.c-index l.digits)) (2 ^ 70) ≡ min (value_behind 0 l.digits) (2 ^ 70);
  small : l.value ≤ 2 ^ 70;
}
