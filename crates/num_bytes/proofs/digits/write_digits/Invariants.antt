use Rattle.std.proofs.Common.{◌≡◌, ◌/◌, ◌-◌, ◌^◌, drop, length}
use Rattle.num_bytes.specs.Digits.{digit_text, last_digits}
use Rattle.num_bytes.proofs.digits.write_digits.Given as goal

abbrev pub invariant-loop-at : goal.invariant-loop-at
invariant-loop-at l = record {
  rest : l.rest ≡ l.size / 10 ^ (length l.text - l.at);
  written : drop l.at l.text ≡ digit_text (last_digits (length l.text - l.at) l.size);
}
