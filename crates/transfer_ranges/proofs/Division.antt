-- Quotients of whole numbers, cut downwards.
use Rattle.std.proofs.Common.{◌≡◌, ℕ, zero, suc, ◌+◌, ◌*◌, ◌/◌, ◌%◌, ◌≤◌, ◌<◌, ℤ, pos, negsuc, ◌+ℤ◌, ◌-ℤ◌, ◌*ℤ◌, ◌≤ℤ◌, refl, sym, subst, arith}
use Rattle.std.specs.Prelude.{unsigned_abs, ◌↔◌}
use Rattle.std.specs.Int.{int_div_euclid}
use Rattle.std.proofs.lemmas.Int.{ints, by_lt_z}
use Rattle.std.proofs.lemmas.Nat.{mul-le}
use Rattle.std.proofs.Math.Nat.{div-add-mod, mod-lt}
use Rattle.interval_domain.specs.declared.bounds.Interval.{Interval}
use Rattle.interval_domain.specs.Bounds.{Holds}
use Rattle.interval_domain.specs.Corners.{interval}
use Rattle.interval_domain.proofs.IntervalEnds.{parts_of_product, times_grows}

quotient_low : (a d : ℕ) → (a / d) * d ≤ a
quotient_low a d = omega (arith, div-add-mod a d)

quotient_next : (a d : ℕ) → 1 ≤ d → a < (a / d + 1) * d
quotient_next a d h = let rest : a % d < d = mod-lt a h in omega (arith, div-add-mod a d, rest)

quotient_size : (a d : ℕ) → 1 ≤ d → a / d ≤ a
quotient_size a d h = omega (arith, quotient_low a d, mul-le (a / d) 1 (a / d) d (omega arith) h)

pub floor_low : (x d r : ℤ) → pos 1 ≤ℤ d → r ≡ int_div_euclid x d → (r *ℤ d) ≤ℤ x
floor_low (pos a) (pos d) r h e = rw e (omega (arith, ints, quotient_low a d))
floor_low (negsuc a) (pos d) r h e = rw e (omega (arith, ints, parts_of_product (negsuc (a / d)) (pos d), quotient_next a d (omega (arith, ints))))
floor_low x (negsuc d) r h e = absurd (omega (arith, ints))

-- one more than -(q + 1), times d
negative_next : (q d a : ℕ) → q * d ≤ a → (negsuc a +ℤ pos 1) ≤ℤ ((negsuc q +ℤ pos 1) *ℤ pos d)
negative_next zero d a h =
    let e : negsuc zero +ℤ pos 1 ≡ pos 0 = refl in
    subst (λ t. (negsuc a +ℤ pos 1) ≤ℤ (t *ℤ pos d)) (sym e) (omega (arith, ints, parts_of_product (pos 0) (pos d)))
negative_next (suc q) d a h =
    let e : negsuc (suc q) +ℤ pos 1 ≡ negsuc q = omega (arith, ints) in
    subst (λ t. (negsuc a +ℤ pos 1) ≤ℤ (t *ℤ pos d)) (sym e) (omega (arith, ints, parts_of_product (negsuc q) (pos d), h))

pub floor_next : (x d r : ℤ) → pos 1 ≤ℤ d → r ≡ int_div_euclid x d → (x +ℤ pos 1) ≤ℤ ((r +ℤ pos 1) *ℤ d)
floor_next (pos a) (pos d) r h e = rw e (omega (arith, ints, quotient_next a d (omega (arith, ints))))
floor_next (negsuc a) (pos d) r h e = rw e (negative_next (a / d) d a (quotient_low a d))
floor_next x (negsuc d) r h e = absurd (omega (arith, ints))

pub floor_size : (x d r : ℤ) → pos 1 ≤ℤ d → r ≡ int_div_euclid x d → unsigned_abs r ≤ unsigned_abs x
floor_size (pos a) (pos d) r h e = rw e (quotient_size a d (omega (arith, ints)))
floor_size (negsuc a) (pos d) r h e = rw e (omega (arith, quotient_size a d (omega (arith, ints))))
floor_size x (negsuc d) r h e = absurd (omega (arith, ints))

pub ruleset division = (floor_low, floor_next, floor_size)

-- ---- numbers whose multiples lie in an interval

divided_by : (i : Interval) (n : ℕ) (low high : ℤ) → (low *ℤ pos n) ≤ℤ (i.low -ℤ pos 1) → i.low ≤ℤ ((low +ℤ pos 1) *ℤ pos n) → (high *ℤ pos n) ≤ℤ i.high → (i.high +ℤ pos 1) ≤ℤ ((high +ℤ pos 1) *ℤ pos n)
    → (k : ℤ) → Holds (interval (low +ℤ pos 1) high) k ↔ Holds i (k *ℤ pos n)
divided_by i n low high a b c d k = (to, from)
  where
    to : Holds (interval (low +ℤ pos 1) high) k → Holds i (k *ℤ pos n)
    to (h, l) = (omega (arith, ints, b, times_grows (low +ℤ pos 1) k n h), omega (arith, ints, c, times_grows k high n l))

    from : Holds i (k *ℤ pos n) → Holds (interval (low +ℤ pos 1) high) k
    from (h, l) = (
      by_lt_z low k (λ s. omega (arith, ints, s)) (λ s. absurd (omega (arith, ints, a, h, times_grows k low n s))),
      by_lt_z high k (λ s. absurd (omega (arith, ints, d, l, times_grows (high +ℤ pos 1) k n (omega (arith, ints, s))))) (λ s. s),
    )

pub divided_gives : (i : Interval) (by by2 x y low high low2 high2 : ℤ) → pos 1 ≤ℤ by → by2 ≡ by → x ≡ i.low -ℤ pos 1 → y ≡ i.high
    → (low *ℤ by2) ≤ℤ x → (x +ℤ pos 1) ≤ℤ ((low +ℤ pos 1) *ℤ by2) → (high *ℤ by2) ≤ℤ y → (y +ℤ pos 1) ≤ℤ ((high +ℤ pos 1) *ℤ by2)
    → low2 ≡ low +ℤ pos 1 → high2 ≡ high → (k : ℤ) → Holds (interval low2 high2) k ↔ Holds i (k *ℤ by)
divided_gives i (pos n) by2 x y low high low2 high2 h e f g a b c d l m =
    let first : (low *ℤ pos n) ≤ℤ x = subst (λ t. (low *ℤ t) ≤ℤ x) e a in
    let second : (x +ℤ pos 1) ≤ℤ ((low +ℤ pos 1) *ℤ pos n) = subst (λ t. (x +ℤ pos 1) ≤ℤ ((low +ℤ pos 1) *ℤ t)) e b in
    let third : (high *ℤ pos n) ≤ℤ y = subst (λ t. (high *ℤ t) ≤ℤ y) e c in
    let fourth : (y +ℤ pos 1) ≤ℤ ((high +ℤ pos 1) *ℤ pos n) = subst (λ t. (y +ℤ pos 1) ≤ℤ ((high +ℤ pos 1) *ℤ t)) e d in
    subst (λ t. (k : ℤ) → Holds (interval t high2) k ↔ Holds i (k *ℤ pos n)) (sym l)
    (subst (λ t. (k : ℤ) → Holds (interval (low +ℤ pos 1) t) k ↔ Holds i (k *ℤ pos n)) (sym m)
    (divided_by i n low high (omega (arith, ints, first, f)) (omega (arith, ints, second, f)) (omega (arith, ints, third, g)) (omega (arith, ints, fourth, g))))
divided_gives i (negsuc n) by2 x y low high low2 high2 h e f g a b c d l m = absurd (omega (arith, ints))
