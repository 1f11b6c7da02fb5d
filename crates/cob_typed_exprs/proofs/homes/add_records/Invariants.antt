use Rattle.std.proofs.Common.{◌≡◌, ◌≤◌, ℕ, if◌then◌else◌, Some, drop, length}
use Rattle.cob_typed_exprs.specs.Names.{is_among}
use Rattle.cob_typed_exprs.specs.Homes.{home_in}
use Rattle.cob_typed_exprs.proofs.homes.add_records.Given as goal

abbrev pub invariant-loop-at : goal.invariant-loop-at
invariant-loop-at l = record {
  within : l.at ≤ length l.records;
  added : (place : ℕ) → home_in l.homes place ≡ (if is_among place (drop l.at l.records) then Some l.file.name else home_in l.fn.homes place);
}
