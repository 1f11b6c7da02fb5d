use Rattle.std.proofs.Common.{◌≡◌, ◌/◌, ◌%◌, ◌&&◌, false, nat_lt, get_or, arith, if◌then◌else◌, Some, None, ap, sym}
use Rattle.std.proofs.lemmas.Bool.{lt-ltb, le-ltb, and_left, and_right}
use Rattle.num_bytes.specs.Digits.{number_of}
use Rattle.num_bytes.specs.Reading.{half_bytes}
use Rattle.num_bytes.proofs.PackedLemmas.{halves_number, halves_bound, halves_fit, halves_digits, halves_bad, hundred_monotone}
use Rattle.num_bytes.proofs.packed.read_halves.Goals as goal
use Rattle.num_bytes.proofs.packed.read_halves.Goals.{then-high-gt9-via-then-high-gt9, then-high-gt9-via-else-high-gt9+then-low-gt9}

pub returns-then-high-gt9-clause-value : goal.returns-then-high-gt9-clause-value
returns-then-high-gt9-clause-value c =
    let high = get_or c.args.bytes.now c.loop-byte.byte-index 0 / 16 in
    let low = get_or c.args.bytes.now c.loop-byte.byte-index 0 % 16 in
    let bad : (nat_lt high 10 && nat_lt low 10) ≡ false = elim c.then-high-gt9.branch [
      | then-high-gt9-via-then-high-gt9 w ↦ and_left (nat_lt high 10) (nat_lt low 10) (le-ltb high 10 (omega arith))
      | then-high-gt9-via-else-high-gt9+then-low-gt9 w ↦ and_right (nat_lt high 10) (nat_lt low 10) (le-ltb low 10 (omega arith))
    ] in
    ap (λ b. if b then Some (number_of (half_bytes c.args.bytes.now)) else None)
    (sym (halves_bad (λ h. nat_lt h 10) c.args.bytes.now c.loop-byte.byte-index c.loop-byte-test.true bad))

pub overflow_mul-number : goal.overflow_mul-number
overflow_mul-number c = omega (arith, halves_fit c.loop-byte.byte-index c.loop-byte.number (omega arith) c.loop-byte.invariant.bound)

pub overflow_add-number : goal.overflow_add-number
overflow_add-number c = omega (arith, halves_fit c.loop-byte.byte-index c.loop-byte.number (omega arith) c.loop-byte.invariant.bound)

pub overflow_mul-number-in-loop-byte : goal.overflow_mul-number-in-loop-byte
overflow_mul-number-in-loop-byte c = omega (arith, halves_fit c.loop-byte.byte-index c.loop-byte.number (omega arith) c.loop-byte.invariant.bound)

pub overflow_add-number-in-loop-byte : goal.overflow_add-number-in-loop-byte
overflow_add-number-in-loop-byte c = omega (arith, halves_fit c.loop-byte.byte-index c.loop-byte.number (omega arith) c.loop-byte.invariant.bound)

pub loop-byte-preserved : goal.loop-byte-preserved
loop-byte-preserved c = record {
  digits =
      halves_digits (λ h. nat_lt h 10) c.args.bytes.now c.loop-byte.byte-index c.loop-byte-test.true c.loop-byte.invariant.digits
      (lt-ltb (get_or c.args.bytes.now c.loop-byte.byte-index 0 / 16) 10 (omega arith))
      (lt-ltb (get_or c.args.bytes.now c.loop-byte.byte-index 0 % 16) 10 (omega arith));
  number =
      halves_number c.args.bytes.now c.loop-byte.byte-index c.loop-byte.number c.from-high.result c.from-low.result c.loop-byte-test.true
      c.loop-byte.invariant.number c.from-high.ensures c.from-low.ensures;
  bound =
      halves_bound c.loop-byte.byte-index c.loop-byte.number c.from-high.result c.from-low.result c.loop-byte.invariant.bound
      (omega arith) (omega arith);
}

pub returns-clause-bound : goal.returns-clause-bound
returns-clause-bound c = omega (arith, hundred_monotone c.loop-byte.byte-index 9 (omega arith))
