use Rattle.std.proofs.Common.{◌≡◌, ◌<◌, ◌^◌, drop}
use Rattle.cob_program.specs.Values.{numeral}
use Rattle.cob_store.proofs.numbers.numeral.Given as goal

abbrev pub invariant-loop-digit : goal.invariant-loop-digit
invariant-loop-digit l = record {
  left : numeral l.size (drop l.digit-index l.digits) ≡ numeral 0 l.digits;
  below : l.size < 10 ^ l.digit-index;
}
