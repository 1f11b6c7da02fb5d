use Rattle.std.proofs.Common.{◌≡◌, ◌^◌, ◌<◌, true, take, nat_lt}
use Rattle.std.specs.List.{list_all}
use Rattle.num_bytes.specs.Digits.{number_of}
use Rattle.num_bytes.specs.Reading.{half_bytes}
use Rattle.num_bytes.proofs.packed.read_halves.Given as goal

abbrev pub invariant-loop-byte : goal.invariant-loop-byte
invariant-loop-byte l = record {
  digits : list_all (λ h. nat_lt h 10) (half_bytes (take l.byte-index l.bytes)) ≡ true;
  number : l.number ≡ number_of (half_bytes (take l.byte-index l.bytes));
  bound : l.number < 100 ^ l.byte-index;
}
