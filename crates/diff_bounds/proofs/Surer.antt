-- Where more is known, the error is narrower.
use Rattle.std.proofs.Common.{◌≡◌, ℕ, Bool, true, false, ◌&&◌, pos, neg_ℤ, refl, sym, arith}
use Rattle.std.proofs.lemmas.Int.{ints}
use Rattle.std.proofs.lemmas.Bool.{false≢true}
use Rattle.dec_num.specs.declared.types.Mode.{Mode}
use Rattle.dec_num.specs.declared.types.Mode.TheVariants.{Trunc, Round}
use Rattle.interval_domain.specs.declared.bounds.Interval.{Interval}
use Rattle.interval_domain.specs.Corners.{interval}
use Rattle.diff_bounds.specs.declared.form.known.Known.{Known}
use Rattle.diff_bounds.specs.Errors.{one_sided, error_in, IsInside, IsSurer}

same_inside : (a b : Interval) → a.low ≡ b.low → a.high ≡ b.high → IsInside a b
same_inside a b e f = record { low = omega (arith, ints, e); high = omega (arith, ints, f) }

left_inside : (unit : ℕ) → IsInside (interval (neg_ℤ (pos unit)) (pos 0)) (interval (neg_ℤ (pos unit)) (pos unit))
left_inside unit = record { low = omega (arith, ints); high = omega (arith, ints) }

right_inside : (unit : ℕ) → IsInside (interval (pos 0) (pos unit)) (interval (neg_ℤ (pos unit)) (pos unit))
right_inside unit = record { low = omega (arith, ints); high = omega (arith, ints) }

one_inside : (mode : Mode) (n p m q : Bool) (unit : ℕ) → (m ≡ true → n ≡ true) → (q ≡ true → p ≡ true) → (n && p) ≡ false → IsInside (one_sided mode n p (pos unit)) (one_sided mode m q (pos unit))
one_inside Trunc true true m q unit h g e = absurd (false≢true (sym e))
one_inside Trunc true false true q unit h g e = same_inside _ _ refl refl
one_inside Trunc true false false true unit h g e = absurd (false≢true (g refl))
one_inside Trunc true false false false unit h g e = left_inside unit
one_inside Trunc false p true q unit h g e = absurd (false≢true (h refl))
one_inside Trunc false true false true unit h g e = same_inside _ _ refl refl
one_inside Trunc false true false false unit h g e = right_inside unit
one_inside Trunc false false false true unit h g e = absurd (false≢true (g refl))
one_inside Trunc false false false false unit h g e = same_inside _ _ refl refl
one_inside Round n p m q unit h g e = same_inside _ _ refl refl

zero_inside : (mode : Mode) (m q : Bool) (unit : ℕ) → IsInside (interval (pos 0) (pos 0)) (one_sided mode m q (pos unit))
zero_inside Trunc true q unit = record { low = omega (arith, ints); high = omega (arith, ints) }
zero_inside Trunc false true unit = record { low = omega (arith, ints); high = omega (arith, ints) }
zero_inside Trunc false false unit = record { low = omega (arith, ints); high = omega (arith, ints) }
zero_inside Round m q unit = record { low = omega (arith, ints); high = omega (arith, ints) }

-- by what is known in the first, x y z, and in the second, u m q
inside_of : (mode : Mode) (x n p u m q : Bool) (unit : ℕ) → (u ≡ true → x ≡ true) → (m ≡ true → n ≡ true) → (q ≡ true → p ≡ true) → IsInside (error_in (record { whole = x; not_negative = n; not_positive = p }) mode (pos unit)) (error_in (record { whole = u; not_negative = m; not_positive = q }) mode (pos unit))
inside_of mode x n p true m q unit w h g = by_whole x (w refl)
  where
    by_whole : (x : Bool) → x ≡ true → IsInside (error_in (record { whole = x; not_negative = n; not_positive = p }) mode (pos unit)) (interval (pos 0) (pos 0))
    by_whole true e = same_inside _ _ refl refl
    by_whole false e = absurd (false≢true e)
inside_of mode x n p false true true unit w h g = by_both x n p (h refl) (g refl)
  where
    by_both : (x n p : Bool) → n ≡ true → p ≡ true → IsInside (error_in (record { whole = x; not_negative = n; not_positive = p }) mode (pos unit)) (interval (pos 0) (pos 0))
    by_both true n p e f = same_inside _ _ refl refl
    by_both false true true e f = same_inside _ _ refl refl
    by_both false true false e f = absurd (false≢true f)
    by_both false false p e f = absurd (false≢true e)
inside_of mode true n p false true false unit w h g = zero_inside mode true false unit
inside_of mode true n p false false q unit w h g = zero_inside mode false q unit
inside_of mode false true true false true false unit w h g = zero_inside mode true false unit
inside_of mode false true true false false q unit w h g = zero_inside mode false q unit
inside_of mode false true false false true false unit w h g = one_inside mode true false true false unit h g refl
inside_of mode false true false false false q unit w h g = one_inside mode true false false q unit h g refl
inside_of mode false false p false true false unit w h g = one_inside mode false p true false unit h g refl
inside_of mode false false p false false q unit w h g = one_inside mode false p false q unit h g refl

pub surer_inside : (mode : Mode) (known other : Known) (unit : ℕ) → IsSurer known other → IsInside (error_in known mode (pos unit)) (error_in other mode (pos unit))
surer_inside mode known other unit surer = inside_of mode known.whole known.not_negative known.not_positive other.whole other.not_negative other.not_positive unit surer.whole surer.not_negative surer.not_positive
