use Rattle.std.proofs.Common.{◌≡◌, ◌≤◌, ◌^◌, drop}
use Rattle.cert_text.specs.Reading.{digits_from}
use Rattle.cert_text.proofs.number.digits_from.Given as goal

abbrev pub invariant-loop-i : goal.invariant-loop-i
invariant-loop-i l = record {
  small : l.value ≤ 10 ^ 37;
  goes_on : digits_from l.value (drop l.i l.bytes) ≡ digits_from l.fn.value l.bytes;
}
