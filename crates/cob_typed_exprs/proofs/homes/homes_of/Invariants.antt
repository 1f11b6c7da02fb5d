use Rattle.std.proofs.Common.{◌≤◌, drop, length}
use Rattle.cob_typed_exprs.specs.Homes.{HasHomes}
use Rattle.cob_typed_exprs.proofs.homes.homes_of.Given as goal

abbrev pub invariant-loop-at : goal.invariant-loop-at
invariant-loop-at l = record {
  within : l.at ≤ length l.files;
  added : HasHomes l.homes (drop l.at l.files);
}
