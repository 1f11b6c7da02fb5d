use Rattle.std.proofs.Common.{◌≡◌, ◌/◌, ◌-◌, ◌*◌, ◌^◌, ◌<◌, drop, length, ◌++◌, ◌∷◌, []}
use Rattle.num_bytes.specs.Digits.{last_digits}
use Rattle.num_bytes.specs.Writing.{packed}
use Rattle.num_bytes.proofs.packed.write_halves.Given as goal

abbrev pub invariant-loop-at : goal.invariant-loop-at
invariant-loop-at l = record {
  within : l.at < length l.bytes;
  rest : l.rest ≡ l.size / 10 ^ (2 * (length l.bytes - l.at) - 1);
  written : drop l.at l.bytes ≡ packed (last_digits (2 * (length l.bytes - l.at) - 1) l.size ++ l.last ∷ []);
}
