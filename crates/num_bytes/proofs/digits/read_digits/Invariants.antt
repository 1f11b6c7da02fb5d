use Rattle.std.proofs.Common.{◌≡◌, ◌-◌, ◌^◌, ◌<◌, true, take, map}
use Rattle.std.specs.List.{list_all}
use Rattle.std.specs.Char.{is_ascii_digit}
use Rattle.num_bytes.specs.Digits.{number_of}
use Rattle.num_bytes.proofs.digits.read_digits.Given as goal

abbrev pub invariant-loop-byte : goal.invariant-loop-byte
invariant-loop-byte l = record {
  digits : list_all is_ascii_digit (take l.byte-index l.text) ≡ true;
  number : l.number ≡ number_of (map (λ b. b - 48) (take l.byte-index l.text));
  bound : l.number < 10 ^ l.byte-index;
}
