-- The units of decimals and of quotients lie in their least interval.
use Rattle.std.proofs.Common.{◌≡◌, ℕ, ◌+◌, ◌^◌, ◌==◌, Bool, true, false, if◌then◌else◌, ℤ, pos, neg_ℤ, ◌*ℤ◌, ◌≤ℤ◌, Some, None, refl, sym, ap, ◌∙◌, subst, arith}
use Rattle.std.specs.Prelude.{◌≢◌, ◌-ℤ◌, int_le, unsigned_abs}
use Rattle.std.proofs.lemmas.Int.{ints, clamps}
use Rattle.dec_num.specs.declared.types.Mode.{Mode}
use Rattle.dec_num.specs.declared.types.Scaled.{Scaled}
use Rattle.dec_num.specs.Exact.{Fraction, near, ratio_of}
use Rattle.dec_num.specs.Scaled.{value_of}
use Rattle.dec_num.proofs.Powers.{ten_positive}
use Rattle.dec_num.proofs.Near.{near_monotone}
use Rattle.interval_domain.specs.declared.bounds.Interval.{Interval}
use Rattle.interval_domain.specs.Bounds.{Holds, IsLeast}
use Rattle.interval_domain.specs.Results.{IsQuotient}
use Rattle.interval_domain.specs.Corners as corner
use Rattle.interval_domain.proofs.IntervalEnds.{low_held, high_held}
use Rattle.cob_program.specs.Values.{exact_quotient}
use Rattle.cob_program.proofs.Steps.{some_same}
use Rattle.sum_ranges.specs.declared.ranged.Ranged.{Ranged}
use Rattle.sum_ranges.specs.Ranged.{decimal, IsIn, IsOrdered}
use Rattle.interval_domain.proofs.Quotients.{positive_least, above_and_below, above_alone, below_alone}
use Rattle.sum_ranges.proofs.Operations.{in_range, not_zero}
use Rattle.transfer_ranges.specs.declared.amounts.AmountRange.TheVariants as range
use Rattle.transfer_ranges.specs.Amounts.{IsNear}
use Rattle.transfer_ranges.specs.Results.{IsLeastIfAny}
use Rattle.transfer_ranges.specs.ResultRanges.{near_range, quotients, quotient_units}
use Rattle.transfer_ranges.proofs.Keeping.{le_of, least_same}
use Rattle.dec_num.proofs.Shifting.{near_shift}

-- ---- decimals

-- so many units of one scale, cut or rounded to another
abbrev pub near_at : Mode → ℕ → ℤ → ℕ → ℤ
near_at mode scale units from = near mode (value_of (decimal units from)) (pos scale)

pub near_grows : (mode : Mode) (scale from : ℕ) (x y : ℤ) → x ≤ℤ y → near_at mode scale x from ≤ℤ near_at mode scale y from
near_grows mode scale from x y h = near_monotone mode x y (10 ^ from) (pos scale) (ten_positive from) h

pub near_held : (mode : Mode) (scale : ℕ) (r : Ranged) (x : Scaled) (v : Fraction) (z : ℤ) → IsIn x r → v ≡ value_of x → z ≡ near mode v (pos scale) → Holds (near_range mode scale r) z
near_held mode scale r x v z h e k =
    let same : z ≡ near_at mode scale x.units r.scale = k ∙ ap (λ w. near mode w (pos scale)) (e ∙ ap (λ s. value_of (decimal x.units s)) h.scale) in
    subst (Holds (near_range mode scale r)) (sym same) (near_grows mode scale r.scale r.units.low x.units h.held.0, near_grows mode scale r.scale x.units r.units.high h.held.1)

end_is_near : (mode : Mode) (scale : ℕ) (r : Ranged) (z : ℤ) → Holds r.units z → IsNear mode scale (range.Decimal r) (near_at mode scale z r.scale)
end_is_near mode scale r z h = (value_of (decimal z r.scale), (decimal z r.scale, in_range z r h, refl), refl)

pub decimals_least : (mode : Mode) (scale : ℕ) (r : Ranged) → IsOrdered r → IsLeast (IsNear mode scale (range.Decimal r)) (near_range mode scale r)
decimals_least mode scale r ordered = record {
  holds = λ z (v, (x, h, e), k). near_held mode scale r x v z h e k;
  low_is_one = end_is_near mode scale r r.units.low (low_held r.units ordered);
  high_is_one = end_is_near mode scale r r.units.high (high_held r.units ordered);
}

-- ---- quotients of intervals

positive_divisors : (d : Interval) → d.low ≤ℤ d.high → pos 1 ≤ℤ d.high → (corner.above_zero d).low ≤ℤ (corner.above_zero d).high
positive_divisors d h k = omega (arith, ints, clamps)

above_positive : (d : Interval) → pos 1 ≤ℤ (corner.above_zero d).low
above_positive d = omega (arith, ints, clamps)

no_divisor : (mode : Mode) (up : ℤ) (n d : Interval) → d.high ≤ℤ pos 0 → neg_ℤ d.low ≤ℤ pos 0 → (z : ℤ) → IsQuotient n d up mode z → ⊥
no_divisor mode up n d high low z (x, y, h, k, some, e) = some (omega (arith, ints, high, low, k.0, k.1))

gt_of : (y : ℤ) → int_le (pos 1) y ≡ false → y ≤ℤ pos 0
gt_of y e = grind (arith, ints)

pub quotients_least : (mode : Mode) (up : ℤ) (n d : Interval) → n.low ≤ℤ n.high → d.low ≤ℤ d.high → IsLeastIfAny (IsQuotient n d up mode) (quotients mode up n d)
quotients_least mode up n d ordered_n ordered_d = go (int_le (pos 1) d.high) (int_le (pos 1) (neg_ℤ d.low)) refl refl
  where
    over : Interval
    over = corner.corners (corner.quotient up mode) n (corner.above_zero d)

    under : Interval
    under = corner.corners (corner.quotient up mode) (corner.negated n) (corner.above_zero (corner.negated d))

    go : (above below : Bool) → int_le (pos 1) d.high ≡ above → int_le (pos 1) (neg_ℤ d.low) ≡ below → IsLeastIfAny (IsQuotient n d up mode) (corner.either_of (if above then Some over else None) (if below then Some under else None))
    go true true e f =
        let above = positive_least n (corner.above_zero d) up mode ordered_n (positive_divisors d ordered_d (le_of (pos 1) d.high e)) (above_positive d) in
        let below = positive_least (corner.negated n) (corner.above_zero (corner.negated d)) up mode (omega (arith, ints, ordered_n)) (positive_divisors (corner.negated d) (omega (arith, ints, ordered_d)) (le_of (pos 1) (neg_ℤ d.low) f)) (above_positive (corner.negated d)) in
        above_and_below n d up mode over under above below
    go true false e f =
        let above = positive_least n (corner.above_zero d) up mode ordered_n (positive_divisors d ordered_d (le_of (pos 1) d.high e)) (above_positive d) in
        above_alone n d up mode over (gt_of (neg_ℤ d.low) f) above
    go false true e f =
        let below = positive_least (corner.negated n) (corner.above_zero (corner.negated d)) up mode (omega (arith, ints, ordered_n)) (positive_divisors (corner.negated d) (omega (arith, ints, ordered_d)) (le_of (pos 1) (neg_ℤ d.low) f)) (above_positive (corner.negated d)) in
        below_alone n d up mode under (gt_of d.high e) below
    go false false e f = no_divisor mode up n d (gt_of d.high e) (gt_of (neg_ℤ d.low) f)

-- ---- quotients of decimals

zero_apart : (z : ℤ) → z ≡ pos 0 → (unsigned_abs z == 0) ≡ false → ⊥
zero_apart z none apart = let e : (unsigned_abs z == 0) ≡ true = rw none refl in absurd cc

-- units of both, raised to a common scale
abbrev pub ratio_at : Scaled → Scaled → Fraction
ratio_at n d = ratio_of (n.units *ℤ pos (10 ^ d.scale)) (d.units *ℤ pos (10 ^ n.scale))

pub exact_parts : (n d : Scaled) (v : Fraction) → exact_quotient n d ≡ Some v → (d.units ≢ pos 0) × (v ≡ ratio_at n d)
exact_parts n d v e = go (unsigned_abs d.units == 0) refl e
  where
    go : (none : Bool) → (unsigned_abs d.units == 0) ≡ none → (if none then None else Some (ratio_at n d)) ≡ Some v → (d.units ≢ pos 0) × (v ≡ ratio_at n d)
    go true k f = absurd cc
    go false k f = ((λ none. zero_apart d.units none k), sym (some_same (ratio_at n d) v f))

exact_there : (n d : Scaled) → d.units ≢ pos 0 → exact_quotient n d ≡ Some (ratio_at n d)
exact_there n d some = rw (not_zero d.units some) refl

abbrev pub up_of : ℕ → Ranged → Ranged → ℤ
up_of scale n d = pos (scale + d.scale) -ℤ pos n.scale

quotient_is_near : (mode : Mode) (scale : ℕ) (n d : Ranged) (z : ℤ) → IsQuotient n.units d.units (up_of scale n d) mode z → IsNear mode scale (range.Quotient n d) z
quotient_is_near mode scale n d z (x, y, h, k, some, e) = (
  ratio_at (decimal x n.scale) (decimal y d.scale),
  (decimal x n.scale, decimal y d.scale, in_range x n h, in_range y d k, exact_there (decimal x n.scale) (decimal y d.scale) some),
  e ∙ sym (near_shift mode x y scale d.scale n.scale (up_of scale n d) refl),
)

near_is_quotient : (mode : Mode) (scale : ℕ) (n d : Ranged) (z : ℤ) → IsNear mode scale (range.Quotient n d) z → IsQuotient n.units d.units (up_of scale n d) mode z
near_is_quotient mode scale n d z (v, (x, y, h, k, there), e) =
    let parts = exact_parts x y v there in
    let up : pos (scale + d.scale) -ℤ pos n.scale ≡ pos (scale + y.scale) -ℤ pos x.scale = rw (h.scale, k.scale) refl in
    (x.units, y.units, h.held, k.held, parts.0, e ∙ ap (λ w. near mode w (pos scale)) parts.1 ∙ near_shift mode x.units y.units scale y.scale x.scale (up_of scale n d) up)

pub quotient_units_least : (mode : Mode) (scale : ℕ) (n d : Ranged) → IsOrdered n → IsOrdered d → IsLeastIfAny (IsNear mode scale (range.Quotient n d)) (quotient_units mode scale n d)
quotient_units_least mode scale n d ordered_n ordered_d =
    least_same (IsQuotient n.units d.units (up_of scale n d) mode) (IsNear mode scale (range.Quotient n d)) (quotient_units mode scale n d)
    (quotient_is_near mode scale n d) (near_is_quotient mode scale n d)
    (quotients_least mode (up_of scale n d) n.units d.units ordered_n ordered_d)
