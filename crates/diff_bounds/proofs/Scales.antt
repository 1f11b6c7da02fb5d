-- Forms across scales.
use Rattle.std.proofs.Common.{◌≡◌, ℕ, ◌+◌, ◌*◌, ◌^◌, ◌<◌, ◌≤◌, ℤ, pos, ◌+ℤ◌, ◌-ℤ◌, ◌*ℤ◌, ◌≤ℤ◌, ◌<ℤ◌, sym, ap, ◌∙◌, pow-add, arith}
use Rattle.std.proofs.Math.Nat.{mul-le-mul_right}
use Rattle.std.proofs.lemmas.Int.{ints, by_lt_z}
use borrow.Author.Differences.{up, down}
use Rattle.dec_num.specs.declared.types.Scaled.{Scaled}
use Rattle.dec_num.proofs.Powers.{ten_positive}
use Rattle.dec_num.proofs.Signed.{times_times, sum_times}
use Rattle.interval_domain.specs.declared.bounds.Interval.{Interval}
use Rattle.interval_domain.specs.Corners.{interval}
use Rattle.diff_bounds.specs.Errors.{IsWithin}
use Rattle.diff_bounds.specs.Scales.{Spans, IsBetween}
use Rattle.diff_bounds.proofs.Rounds.{parts_of_times}

pub times_monotone : (x y : ℤ) (p : ℕ) → x ≤ℤ y → (x *ℤ pos p) ≤ℤ (y *ℤ pos p)
times_monotone x y p h =
    let less : up x + down y ≤ up y + down x = omega (arith, ints) in
    let more : (up x + down y) * p ≤ (up y + down x) * p = mul-le-mul_right p less in
    omega (arith, ints, more, parts_of_times x p, parts_of_times y p)

pub times_cancel : (x y : ℤ) (p : ℕ) → 0 < p → (x *ℤ pos p) ≤ℤ (y *ℤ pos p) → x ≤ℤ y
times_cancel x y p some h = by_lt_z y x
    (λ (lt : y <ℤ x). absurd (
    let more : ((y +ℤ pos 1) *ℤ pos p) ≤ℤ (x *ℤ pos p) = times_monotone (y +ℤ pos 1) x p (omega (arith, ints)) in
    let parts : up (y +ℤ pos 1) + down y ≡ down (y +ℤ pos 1) + up y + 1 = omega (arith, ints) in
    omega (arith, ints, h, more, parts_of_times (y +ℤ pos 1) p, parts_of_times y p, ap (λ n. n * p) parts)))
    (λ (le : x ≤ℤ y). le)

swapped : (x : ℤ) (p q : ℕ) → (x *ℤ pos p) *ℤ pos q ≡ (x *ℤ pos q) *ℤ pos p
swapped x p q = times_times x p q ∙ (let e : p * q ≡ q * p = omega arith in ap (λ n. x *ℤ pos n) e) ∙ sym (times_times x q p)

-- at a greater scale
pub spans_raised : (s : ℤ) (i : Interval) (u : ℤ) (scale f k : ℕ) → Spans s i (record { units = u; scale = scale }) f → Spans s i (record { units = u *ℤ pos (10 ^ k); scale = scale + k }) f
spans_raised s i u scale f k is =
    let e : 10 ^ (scale + k) ≡ 10 ^ scale * 10 ^ k = pow-add 10 scale k in
    let least = times_monotone _ _ (10 ^ k) is.least in
    let most = times_monotone _ _ (10 ^ k) is.most in
    record {
      least = rw (e, ← times_times, swapped u (10 ^ k) (10 ^ f)) least;
      most = rw (e, ← times_times, swapped u (10 ^ k) (10 ^ f)) most;
    }

-- a sum at one scale
pub spans_added : (s t : ℤ) (i j : Interval) (u v : ℤ) (scale f : ℕ) → Spans s i (record { units = u; scale = scale }) f → Spans t j (record { units = v; scale = scale }) f → Spans (s +ℤ t) (interval (i.low +ℤ j.low) (i.high +ℤ j.high)) (record { units = u +ℤ v; scale = scale }) f
spans_added s t i j u v scale f a b =
    let e : (s +ℤ t) +ℤ (i.low +ℤ j.low) ≡ (s +ℤ i.low) +ℤ (t +ℤ j.low) = omega (arith, ints) in
    let g : (s +ℤ t) +ℤ (i.high +ℤ j.high) ≡ (s +ℤ i.high) +ℤ (t +ℤ j.high) = omega (arith, ints) in
    let least = a.least in let least2 = b.least in let most = a.most in let most2 = b.most in
    record {
      least = rw (e, sum_times (s +ℤ i.low) (t +ℤ j.low) (10 ^ scale), sum_times u v (10 ^ f)) (omega (arith, ints, least, least2));
      most = rw (g, sum_times (s +ℤ i.high) (t +ℤ j.high) (10 ^ scale), sum_times u v (10 ^ f)) (omega (arith, ints, most, most2));
    }

-- what is stored
pub stored_between : (sum : ℤ) (i e : Interval) (stored : ℤ) (v : Scaled) (to more : ℕ) → Spans sum i v (to + more) → IsWithin e stored v to more → IsBetween sum i e (stored *ℤ pos (10 ^ more))
stored_between sum i e stored v to more spans within =
    let least : (sum +ℤ i.low) ≤ℤ (stored *ℤ pos (10 ^ more) -ℤ e.low) = times_cancel _ _ (10 ^ v.scale) (ten_positive v.scale) (let a = spans.least in let b = within.most in omega (arith, ints, a, b)) in
    let most : (stored *ℤ pos (10 ^ more) -ℤ e.high) ≤ℤ (sum +ℤ i.high) = times_cancel _ _ (10 ^ v.scale) (ten_positive v.scale) (let a = within.least in let b = spans.most in omega (arith, ints, a, b)) in
    record { least = omega (arith, ints, least); most = omega (arith, ints, most) }
