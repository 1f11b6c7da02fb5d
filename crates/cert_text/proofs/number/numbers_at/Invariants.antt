use Rattle.std.proofs.Common.{◌≡◌, ◌-◌}
use Rattle.cert_text.specs.Reading.{numbers_at}
use Rattle.cert_text.proofs.Loops.{with_front}
use Rattle.cert_text.proofs.number.numbers_at.Given as goal

abbrev pub invariant-loop : goal.invariant-loop
invariant-loop l = with_front l.numbers.items (numbers_at (8 - l.counter) l.rest) ≡ numbers_at 8 l.bytes
