use Rattle.std.proofs.Common.{◌≡◌, ◌^◌, ◌<◌, drop}
use Rattle.cob_program.specs.Values.{numeral}
use Rattle.cob_calc.proofs.numbers.short_numeral.Given as goal

abbrev pub invariant-loop-digit : goal.invariant-loop-digit
invariant-loop-digit l = record {
  left : numeral l.value (drop l.digit-index l.digits) ≡ numeral 0 l.digits;
  room : l.value < 10 ^ l.digit-index;
}
