use Rattle.std.proofs.Common.{◌≡◌, ◌^◌, ◌<◌, drop}
use Rattle.cob_program.specs.Values.{numeral}
use Rattle.sum_ranges.proofs.literals.numeral.Given as goal

abbrev pub invariant-loop-digit : goal.invariant-loop-digit
invariant-loop-digit l = record {
  whole : numeral l.value (drop l.digit-index l.digits) ≡ numeral 0 l.digits;
  room : l.value < 10 ^ l.digit-index;
}
