-- The values of a sum and of a multiple of forms.
use Rattle.std.proofs.Common.{◌≡◌, ℕ, ◌<◌, ℤ, pos, negsuc, ◌+ℤ◌, ◌-ℤ◌, ◌*ℤ◌, ◌≤ℤ◌, refl, sym, ap, subst, ◌∙◌, arith}
use Rattle.std.specs.Int.{int_max, int_min}
use Rattle.std.proofs.lemmas.Int.{ints, clamps}
use Rattle.interval_domain.specs.declared.bounds.Interval.{Interval}
use Rattle.interval_domain.specs.Bounds.{Holds, IsLeast}
use Rattle.interval_domain.specs.Results.{IsSum}
use Rattle.interval_domain.specs.Corners.{interval, span}
use Rattle.interval_domain.proofs.IntervalEnds.{min_is_one, max_is_one, low_held, high_held, times_grows, times_falls}
use Rattle.diff_bounds.specs.declared.form.lin.Lin.{Lin}
use Rattle.diff_bounds.specs.Forms.{coef, dot, values}
use Rattle.diff_bounds.specs.Results.{added_coefs, added_constant, sum_of, scaled_coefs, scaled_constant, multiple_of, IsMultiple, IsExactly}
use Rattle.diff_bounds.proofs.Coefs.{coef-coefs_of}
use Rattle.diff_bounds.proofs.Dots.{sum_times, dot_of_sums, dot_of_multiples}

-- ---- sums
-- an interval moved up
abbrev pub shifted : ℤ → Interval → Interval
shifted p i = interval (p +ℤ i.low) (p +ℤ i.high)

sum_held : (p q r : ℤ) (i j : Interval) → r ≡ p +ℤ q → (z : ℤ) → IsSum (shifted p i) (shifted q j) z → Holds (shifted r (added_constant i j)) z
sum_held p q r i j e z (x, y, h, k, f) = (omega (arith, ints), omega (arith, ints))

held_is_sum : (p q r : ℤ) (i j : Interval) → r ≡ p +ℤ q → i.low ≤ℤ i.high → j.low ≤ℤ j.high → (z : ℤ) → Holds (shifted r (added_constant i j)) z → IsSum (shifted p i) (shifted q j) z
held_is_sum p q r i j e h k z (low, high) = (
  int_min (p +ℤ i.high) (z -ℤ (q +ℤ j.low)),
  z -ℤ int_min (p +ℤ i.high) (z -ℤ (q +ℤ j.low)),
  (omega (arith, ints, clamps), omega (arith, ints, clamps)),
  (omega (arith, ints, clamps), omega (arith, ints, clamps)),
  omega (arith, ints),
)

pub sums_exact : (p q r : ℤ) (i j : Interval) → r ≡ p +ℤ q → i.low ≤ℤ i.high → j.low ≤ℤ j.high → IsExactly (IsSum (shifted p i) (shifted q j)) (shifted r (added_constant i j))
sums_exact p q r i j e h k = record { holds = sum_held p q r i j e; only = held_is_sum p q r i j e h k }

pub sum_values : (a b : Lin) (cells : ℕ → ℤ) → a.constant.low ≤ℤ a.constant.high → b.constant.low ≤ℤ b.constant.high → IsExactly (IsSum (values a cells) (values b cells)) (values (sum_of a b) cells)
sum_values a b cells h k =
    sums_exact (dot (coef a) cells 8) (dot (coef b) cells 8) (dot (coef (sum_of a b)) cells 8) a.constant b.constant
    (dot_of_sums (coef a) (coef b) (coef (sum_of a b)) cells 8 (coef-coefs_of (added_coefs a b))) h k

-- ---- multiples
pub between_multiples : (i : Interval) (by x : ℤ) → Holds i x → Holds (scaled_constant i by) (x *ℤ by)
between_multiples i (pos n) x (h, k) =
    let low = times_grows i.low x n h in
    let high = times_grows x i.high n k in
    (omega (arith, ints, clamps, low, high), omega (arith, ints, clamps, low, high))
between_multiples i (negsuc n) x (h, k) =
    let high = times_falls i.low x n h in
    let low = times_falls x i.high n k in
    (omega (arith, ints, clamps, low, high), omega (arith, ints, clamps, low, high))

shifted_multiple : (p r : ℤ) (i : Interval) (by y z : ℤ) → r ≡ p *ℤ by → Holds i y → z ≡ (p +ℤ y) *ℤ by → Holds (shifted r (scaled_constant i by)) z
shifted_multiple p r i by y z e h f =
    let inner = between_multiples i by y h in
    let low = inner.0 in
    let high = inner.1 in
    let parts = sum_times p y by in
    (omega (arith, ints, parts, low), omega (arith, ints, parts, high))

multiple_held : (p r : ℤ) (i : Interval) (by : ℤ) → r ≡ p *ℤ by → (z : ℤ) → IsMultiple (shifted p i) by z → Holds (shifted r (scaled_constant i by)) z
multiple_held p r i by e z (x, (h, k), f) =
    let back : x ≡ p +ℤ (x -ℤ p) = omega (arith, ints) in
    shifted_multiple p r i by (x -ℤ p) z e (omega (arith, ints), omega (arith, ints)) (f ∙ ap (λ (t : ℤ). t *ℤ by) back)

-- the end times the factor is a multiple
end_multiple : (p r : ℤ) (i : Interval) (by x : ℤ) → r ≡ p *ℤ by → Holds i x → IsMultiple (shifted p i) by (r +ℤ x *ℤ by)
end_multiple p r i by x e (h, k) = (p +ℤ x, (omega (arith, ints), omega (arith, ints)), (let parts = sum_times p x by in omega (arith, ints, parts)))

pub multiples_least : (p r : ℤ) (i : Interval) (by : ℤ) → r ≡ p *ℤ by → i.low ≤ℤ i.high → IsLeast (IsMultiple (shifted p i) by) (shifted r (scaled_constant i by))
multiples_least p r i by e h =
    let low = end_multiple p r i by i.low e (low_held i h) in
    let high = end_multiple p r i by i.high e (high_held i h) in
    record {
      holds = multiple_held p r i by e;
      low_is_one = min_is_one (λ t. IsMultiple (shifted p i) by (r +ℤ t)) (i.low *ℤ by) (i.high *ℤ by) low high;
      high_is_one = max_is_one (λ t. IsMultiple (shifted p i) by (r +ℤ t)) (i.low *ℤ by) (i.high *ℤ by) low high;
    }

pub multiple_values : (a : Lin) (by : ℤ) (cells : ℕ → ℤ) → a.constant.low ≤ℤ a.constant.high → IsLeast (IsMultiple (values a cells) by) (values (multiple_of a by) cells)
multiple_values a by cells h =
    multiples_least (dot (coef a) cells 8) (dot (coef (multiple_of a by)) cells 8) a.constant by
    (dot_of_multiples (coef a) (coef (multiple_of a by)) cells by 8 (coef-coefs_of (scaled_coefs a by))) h
