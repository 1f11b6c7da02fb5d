-- What is known of items lies within their bounds.
use Rattle.std.proofs.Common.{◌≡◌, ◌≤◌, ℕ, ◌-◌, ◌^◌, ◌<◌, ◌∙◌, ◌&&◌, min, length, Bool, true, false, List, slice_get, Option, Some, None, pos, arith, refl, sym, ap, ⊎_elim}
use Rattle.std.specs.Prelude.{nat_le, int_le, if◌then◌else◌, unsigned_abs, ◌≤ℤ◌}
use Rattle.std.proofs.lemmas.Int.{ints}
use Rattle.std.proofs.lemmas.Bool.Decides.{nat_tests}
use Rattle.std.proofs.lemmas.Bool.{cases_lt}
use Rattle.std.proofs.Math.Nat.{min-le_left, pow-le-pow_right}
use Rattle.interval_domain.specs.declared.bounds.Interval.{Interval}
use Rattle.interval_domain.specs.Corners.{interval}
use Rattle.cob_tree.specs.declared.token.Num.{Num}
use Rattle.cob_program.specs.Bounds.{Bound, literal_bound}
use Rattle.cob_program.proofs.Steps.{both}
use Rattle.cob_typed_exprs.specs.Sizes.{capped}
use Rattle.sum_ranges.specs.Ranged.{ranged}
use Rattle.sum_ranges.specs.Sizes.{IsRangeWithin}
use Rattle.sum_ranges.specs.Working.{AreBounded}
use Rattle.transfer_ranges.specs.Small.{is_short}
use Rattle.transfer_ranges.proofs.Least.{test_le}
use Rattle.range_driver.specs.Known.{fits, range_within, known_range}

at_most : (a b : ℕ) → nat_le a b ≡ true → a ≤ b
at_most a b e = grind (arith, nat_tests)

-- both ends are within the bound
abbrev AreWithin : Bound → Interval → Type 0
AreWithin b i = (i.low ≤ℤ i.high) × (unsigned_abs i.low ≤ b.most) × (unsigned_abs i.high ≤ b.most)

fitting_ends : (b : Bound) (i : Interval) → fits (capped b) i ≡ true → AreWithin b i
fitting_ends b i e =
    let l = both (int_le i.low i.high) (nat_le (unsigned_abs i.low) (capped b).most && nat_le (unsigned_abs i.high) (capped b).most) e in
    let m = both (nat_le (unsigned_abs i.low) (capped b).most) (nat_le (unsigned_abs i.high) (capped b).most) l.1 in
    let less = min-le_left b.most (10 ^ 37) in
    (test_le i.low i.high l.0, omega (arith, at_most (unsigned_abs i.low) (capped b).most m.0, less), omega (arith, at_most (unsigned_abs i.high) (capped b).most m.1, less))

zero_within : (b : Bound) → IsRangeWithin (ranged (interval (pos 0) (pos 0)) b.scale) b
zero_within b = record { ordered = omega (arith, ints); low = omega (arith, ints); high = omega (arith, ints); scale = refl }

chosen_within : (b : Bound) (i : Interval) (t : Bool) → (t ≡ true → AreWithin b i) → IsRangeWithin (ranged (if t then i else interval (pos 0) (pos 0)) b.scale) b
chosen_within b i true h = let l = h refl in record { ordered = l.0; low = l.1; high = l.2; scale = refl }
chosen_within b i false h = zero_within b

pub bounded_within : (b : Bound) (units : Option Interval) → IsRangeWithin (range_within (capped b) units) b
bounded_within b None = zero_within b
bounded_within b (Some i) = chosen_within b i (fits (capped b) i) (fitting_ends b i)

pub known_are_bounded : (bound : ℕ → Bound) (units : List Interval) → AreBounded (known_range bound units) bound
known_are_bounded bound units = record { held = λ place. bounded_within (bound place) (slice_get units place) }

-- ---- short numbers

test_at : (a b : ℕ) → a ≤ b → nat_le a b ≡ true
test_at a b h = grind (arith, nat_tests)

capped_test : (m : ℕ) → nat_le (min m (10 ^ 37)) (10 ^ 18 - 1) ≡ nat_le m (10 ^ 18 - 1)
capped_test m = grind (arith, nat_tests)

pub short_sizes : (b : Bound) → is_short (capped b) ≡ is_short b
short_sizes b = ap (λ t. t && nat_le b.scale 18) (capped_test b.most)

test_over : (a b : ℕ) → b < a → nat_le a b ≡ false
test_over a b h = grind (arith, nat_tests)

short_digits : (n : ℕ) → nat_le (10 ^ n - 1) (10 ^ 18 - 1) ≡ nat_le n 18
short_digits n =
    ⊎_elim (λ (few : n < 19).
    let p = pow-le-pow_right {n = 10} (omega arith) {i = n} {j = 18} (omega (arith, few)) in
    test_at (10 ^ n - 1) (10 ^ 18 - 1) (omega (arith, p)) ∙ sym (test_at n 18 (omega (arith, few))))
    (λ (many : 19 ≤ n).
    let p = pow-le-pow_right {n = 10} (omega arith) {i = 19} {j = n} many in
    test_over (10 ^ n - 1) (10 ^ 18 - 1) (omega (arith, p)) ∙ sym (test_over n 18 (omega (arith, many)))) (cases_lt n 19)

pub short_literals : (n : Num) → is_short (literal_bound n) ≡ (nat_le (length n.digits) 18 && nat_le n.scale 18)
short_literals n = ap (λ t. t && nat_le n.scale 18) (short_digits (length n.digits))
