-- Decimals in whole units of a scale, rounded down and up.
use Rattle.std.proofs.Common.{◌≡◌, ℕ, ◌+◌, ◌-◌, ◌*◌, ◌/◌, ◌^◌, ◌<◌, ◌≤◌, inl, inr, ℤ, pos, negsuc, neg_ℤ, ◌+ℤ◌, ◌*ℤ◌, ◌≤ℤ◌, ◌<ℤ◌, refl, sym, ap, ◌∙◌, arith}
use Rattle.std.specs.Int.{int_div_euclid}
use Rattle.std.proofs.lemmas.Int.{ints, by_lt_z}
use Rattle.std.proofs.lemmas.Nat.{mod_below, div-add-mod'}
use Rattle.std.proofs.lemmas.Bool.{cases_lt, le-leb, lt-leb}
use borrow.Author.Differences.{up, down}
use Rattle.dec_num.specs.declared.types.Scaled.{Scaled}
use Rattle.dec_num.proofs.Powers.{ten_positive, ten_split}
use Rattle.dec_num.proofs.Signed.{times_times, neg_ℤ_times}
use Rattle.interval_domain.proofs.IntervalEnds.{times_grows}
use Rattle.diff_bounds.proofs.Scales.{times_cancel}
use Rattle.sum_ranges.specs.Ranged.{decimal}
use Rattle.sum_forms.specs.Constants.{floor_at, ceiling_at}

-- ---- quotients rounded down

parts_of_times : (x : ℤ) (n : ℕ) → up (x *ℤ pos n) + down x * n ≡ down (x *ℤ pos n) + up x * n
parts_of_times (pos a) n = omega (arith, ints)
parts_of_times (negsuc a) n = omega (arith, ints)

pub floor_parts : (u : ℤ) (d : ℕ) → 0 < d → ((int_div_euclid u (pos d) *ℤ pos d) ≤ℤ u) × (u <ℤ (int_div_euclid u (pos d) *ℤ pos d +ℤ pos d))
floor_parts (pos a) d h =
    let e = div-add-mod' a d in let f = mod_below a d h in
    (omega (arith, ints, e, f, parts_of_times (pos (a / d)) d), omega (arith, ints, e, f, parts_of_times (pos (a / d)) d))
floor_parts (negsuc a) d h =
    let e = div-add-mod' a d in let f = mod_below a d h in
    (omega (arith, ints, e, f, parts_of_times (negsuc (a / d)) d), omega (arith, ints, e, f, parts_of_times (negsuc (a / d)) d))

next_times : (x y : ℤ) (d : ℕ) → x <ℤ y → (x *ℤ pos d +ℤ pos d) ≤ℤ (y *ℤ pos d)
next_times x y d h =
    let more : ((x +ℤ pos 1) *ℤ pos d) ≤ℤ (y *ℤ pos d) = times_grows (x +ℤ pos 1) y d (omega (arith, ints)) in
    let parts : up (x +ℤ pos 1) + down x ≡ down (x +ℤ pos 1) + up x + 1 = omega (arith, ints) in
    omega (arith, ints, more, parts_of_times x d, parts_of_times (x +ℤ pos 1) d, ap (λ n. n * d) parts)

-- what, times d, is at most u, is at most the quotient
floor_greatest : (v u : ℤ) (d : ℕ) → 0 < d → (v *ℤ pos d) ≤ℤ u → v ≤ℤ int_div_euclid u (pos d)
floor_greatest v u d h k = by_lt_z (int_div_euclid u (pos d)) v
    (λ (lt : int_div_euclid u (pos d) <ℤ v). absurd (let far = next_times (int_div_euclid u (pos d)) v d lt in let parts = floor_parts u d h in omega (arith, ints, far, parts.1)))
    (λ (le : v ≤ℤ int_div_euclid u (pos d)). le)

-- ---- rounded down

-- by whether the scale is at most the other one
floor_below : (f : ℕ) (v : Scaled) → v.scale ≤ f → floor_at f v ≡ v.units *ℤ pos (10 ^ (f - v.scale))
floor_below f v h = rw (le-leb v.scale f h) refl

floor_above : (f : ℕ) (v : Scaled) → f < v.scale → floor_at f v ≡ int_div_euclid v.units (pos (10 ^ (v.scale - f)))
floor_above f v h = rw (lt-leb v.scale f h) refl

-- a power is that of the lesser scale, times that of the difference
split : (j k : ℕ) → j ≤ k → 10 ^ (k - j) * 10 ^ j ≡ 10 ^ k
split j k h = omega (arith, ten_split j k h)

floor_low_below : (f : ℕ) (u : ℤ) (s : ℕ) → s ≤ f → (floor_at f (decimal u s) *ℤ pos (10 ^ s)) ≤ℤ (u *ℤ pos (10 ^ f))
floor_low_below f u s h =
    let e : (u *ℤ pos (10 ^ (f - s))) *ℤ pos (10 ^ s) ≡ u *ℤ pos (10 ^ f) = times_times u (10 ^ (f - s)) (10 ^ s) ∙ ap (λ (n : ℕ). u *ℤ pos n) (split s f h) in
    rw (floor_below f (decimal u s) h) (omega (arith, ints, e))

floor_low_above : (f : ℕ) (u : ℤ) (s : ℕ) → f < s → (floor_at f (decimal u s) *ℤ pos (10 ^ s)) ≤ℤ (u *ℤ pos (10 ^ f))
floor_low_above f u s h =
    let d : ℕ = 10 ^ (s - f) in
    let q : ℤ = int_div_euclid u (pos (10 ^ (s - f))) in
    let e : q *ℤ pos (10 ^ s) ≡ (q *ℤ pos (10 ^ (s - f))) *ℤ pos (10 ^ f) = sym (times_times q (10 ^ (s - f)) (10 ^ f) ∙ ap (λ (n : ℕ). q *ℤ pos n) (split f s (omega arith))) in
    let less = times_grows (q *ℤ pos (10 ^ (s - f))) u (10 ^ f) (floor_parts u (10 ^ (s - f)) (ten_positive (s - f))).0 in
    rw (floor_above f (decimal u s) h) (omega (arith, ints, e, less))

-- no more than the value,
pub floor_low : (f : ℕ) (u : ℤ) (s : ℕ) → (floor_at f (decimal u s) *ℤ pos (10 ^ s)) ≤ℤ (u *ℤ pos (10 ^ f))
floor_low f u s = elim (cases_lt f s) as (λ _. (floor_at f (decimal u s) *ℤ pos (10 ^ s)) ≤ℤ (u *ℤ pos (10 ^ f))) [
  | inl h ↦ floor_low_above f u s h
  | inr h ↦ floor_low_below f u s h
]

greatest_below : (f : ℕ) (x u : ℤ) (s : ℕ) → s ≤ f → (x *ℤ pos (10 ^ s)) ≤ℤ (u *ℤ pos (10 ^ f)) → x ≤ℤ floor_at f (decimal u s)
greatest_below f x u s h k =
    let e : (u *ℤ pos (10 ^ (f - s))) *ℤ pos (10 ^ s) ≡ u *ℤ pos (10 ^ f) = times_times u (10 ^ (f - s)) (10 ^ s) ∙ ap (λ (n : ℕ). u *ℤ pos n) (split s f h) in
    rw (floor_below f (decimal u s) h) (times_cancel x (u *ℤ pos (10 ^ (f - s))) (10 ^ s) (ten_positive s) (omega (arith, ints, e, k)))

greatest_above : (f : ℕ) (x u : ℤ) (s : ℕ) → f < s → (x *ℤ pos (10 ^ s)) ≤ℤ (u *ℤ pos (10 ^ f)) → x ≤ℤ floor_at f (decimal u s)
greatest_above f x u s h k =
    let e : x *ℤ pos (10 ^ s) ≡ (x *ℤ pos (10 ^ (s - f))) *ℤ pos (10 ^ f) = sym (times_times x (10 ^ (s - f)) (10 ^ f) ∙ ap (λ (n : ℕ). x *ℤ pos n) (split f s (omega arith))) in
    rw (floor_above f (decimal u s) h) (floor_greatest x u (10 ^ (s - f)) (ten_positive (s - f)) (times_cancel (x *ℤ pos (10 ^ (s - f))) u (10 ^ f) (ten_positive f) (omega (arith, ints, e, k))))

-- and the greatest such number
pub floor_is_greatest : (f : ℕ) (x u : ℤ) (s : ℕ) → (x *ℤ pos (10 ^ s)) ≤ℤ (u *ℤ pos (10 ^ f)) → x ≤ℤ floor_at f (decimal u s)
floor_is_greatest f x u s k = elim (cases_lt f s) as (λ _. x ≤ℤ floor_at f (decimal u s)) [
  | inl h ↦ greatest_above f x u s h k
  | inr h ↦ greatest_below f x u s h k
]

pub floor_monotone : (f : ℕ) (x y : ℤ) (s : ℕ) → x ≤ℤ y → floor_at f (decimal x s) ≤ℤ floor_at f (decimal y s)
floor_monotone f x y s h =
    floor_is_greatest f (floor_at f (decimal x s)) y s (let low = floor_low f x s in let more = times_grows x y (10 ^ f) h in omega (arith, ints, low, more))

-- ---- rounded up

pub ceiling_high : (f : ℕ) (u : ℤ) (s : ℕ) → (u *ℤ pos (10 ^ f)) ≤ℤ (ceiling_at f (decimal u s) *ℤ pos (10 ^ s))
ceiling_high f u s =
    let low = floor_low f (neg_ℤ u) s in
    omega (arith, ints, low, neg_ℤ_times u (10 ^ f), neg_ℤ_times (floor_at f (decimal (neg_ℤ u) s)) (10 ^ s))

pub ceiling_monotone : (f : ℕ) (x y : ℤ) (s : ℕ) → x ≤ℤ y → ceiling_at f (decimal x s) ≤ℤ ceiling_at f (decimal y s)
ceiling_monotone f x y s h = let less = floor_monotone f (neg_ℤ y) (neg_ℤ x) s (omega (arith, ints, h)) in omega (arith, ints, less)

pub floor_at_most_ceiling : (f : ℕ) (x y : ℤ) (s : ℕ) → x ≤ℤ y → floor_at f (decimal x s) ≤ℤ ceiling_at f (decimal y s)
floor_at_most_ceiling f x y s h =
    times_cancel (floor_at f (decimal x s)) (ceiling_at f (decimal y s)) (10 ^ s) (ten_positive s)
    (let low = floor_low f x s in let more = times_grows x y (10 ^ f) h in let high = ceiling_high f y s in omega (arith, ints, low, more, high))
