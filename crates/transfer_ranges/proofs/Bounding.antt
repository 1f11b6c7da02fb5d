-- The rule of bounds keeps amounts small.
use Rattle.std.proofs.Common.{◌≡◌, ℕ, ◌+◌, ◌-◌, ◌*◌, ◌/◌, ◌^◌, ◌<◌, ◌≤◌, ◌&&◌, suc, Bool, true, false, if◌then◌else◌, ℤ, pos, negsuc, ◌≤ℤ◌, Option, Some, None, refl, sym, ap, ◌∙◌, subst, arith}
use Rattle.std.specs.Prelude.{◌≢◌, nat_le, unsigned_abs, IfSome}
use Rattle.std.proofs.lemmas.Int.{ints}
use Rattle.std.proofs.lemmas.Nat.{mul-le, le-div}
use Rattle.std.proofs.lemmas.Bool.Decides.{nat_tests}
use Rattle.std.proofs.Math.Nat.{div-div-eq-div-mul, div-le_self, div-mul-le_self}
use Rattle.dec_num.specs.declared.types.Mode.TheVariants.{Trunc}
use Rattle.dec_num.specs.Exact.{near, ratio_of}
use Rattle.dec_num.proofs.Powers.{ten_positive}
use Rattle.dec_num.proofs.Near.{size_of_near, rounded_below}
use Rattle.interval_domain.specs.declared.bounds.Interval.{Interval}
use Rattle.interval_domain.specs.Bounds.{IsLeast}
use Rattle.interval_domain.specs.Results.{IsQuotient}
use Rattle.cob_program.specs.Bounds.{Bound, sum_bound, product_bound, is_small}
use Rattle.cob_program.proofs.Steps.{both}
use Rattle.sum_ranges.specs.declared.ranged.Ranged.{Ranged}
use Rattle.sum_ranges.specs.Ranged.{ranged}
use Rattle.sum_ranges.specs.SumRanges.{turned, plus_range, product_range}
use Rattle.sum_ranges.specs.Sizes.{IsRangeWithin, IsSmallRange}
use Rattle.sum_ranges.specs.Working.{CanAddRanges, CanMultiplyRanges}
use Rattle.sum_ranges.proofs.Bounded.{turned_within, plus_range_within, factor_range_within, small_range_of}
use Rattle.sum_ranges.proofs.Rooms.{can_add, can_multiply}
use Rattle.transfer_ranges.specs.Bounded.{cut_bound, is_small_rest_at}
use Rattle.transfer_ranges.specs.Results.{IsLeastIfAny}
use Rattle.transfer_ranges.specs.ResultRanges.{quotient_units}
use Rattle.transfer_ranges.specs.Sizes.{IsSmallRest, IsSmallRemainder}
use Rattle.transfer_ranges.proofs.Rounding.{up_of, quotients_least}

pub small_sum : (a b : Ranged) (c d : Bound) → IsRangeWithin a c → IsRangeWithin b d → is_small (sum_bound c d) ≡ true → CanAddRanges a b × IsSmallRange (plus_range a b)
small_sum a b c d h k e = (can_add a b c d h k e, small_range_of (plus_range a b) (sum_bound c d) (plus_range_within a b c d h k) e)

product_within : (a b : Ranged) (c d : Bound) → IsRangeWithin a c → IsRangeWithin b d → IsRangeWithin (product_range a b) (product_bound c d)
product_within a b c d h k = factor_range_within false a b (product_range a b) c d h k refl

pub small_product : (a b : Ranged) (c d : Bound) → IsRangeWithin a c → IsRangeWithin b d → is_small c ≡ true → is_small d ≡ true → is_small (product_bound c d) ≡ true → CanMultiplyRanges a b × IsSmallRange (product_range a b)
small_product a b c d h k e f g = (can_multiply a b c d h k e f g, small_range_of (product_range a b) (product_bound c d) (product_within a b c d h k) g)

-- ---- cut quotients

ratio_top : (n d : ℤ) → unsigned_abs (ratio_of n d).top ≡ unsigned_abs n
ratio_top n (pos d) = refl
ratio_top n (negsuc d) = omega (arith, ints)

ratio_bottom : (n d : ℤ) → (ratio_of n d).bottom ≡ unsigned_abs d
ratio_bottom n (pos d) = refl
ratio_bottom n (negsuc d) = refl

no_size : (z : ℤ) → unsigned_abs z ≡ 0 → z ≡ pos 0
no_size z e = omega (arith, ints)

some_size : (z : ℤ) → z ≢ pos 0 → 0 < unsigned_abs z
some_size z h = omega (arith, ints, λ (e : unsigned_abs z ≡ 0). h (no_size z e))

div_more : (x y t : ℕ) → 0 < t → x ≤ y → x / t ≤ y / t
div_more x y t h k = le-div (x / t) y t h (omega (arith, div-mul-le_self x t, k))

cut_up : (n d : ℤ) (k most : ℕ) → 0 < unsigned_abs d → unsigned_abs n ≤ most → unsigned_abs (near Trunc (ratio_of n d) (pos k)) ≤ most * 10 ^ k
cut_up n d k most h m =
    let below = rounded_below Trunc (unsigned_abs (ratio_of n d).top * 10 ^ k) (ratio_of n d).bottom (rw (ratio_bottom n d) h) in
    let more = mul-le (unsigned_abs (ratio_of n d).top) (10 ^ k) most (10 ^ k) (rw (ratio_top n d) m) (omega arith) in
    omega (arith, size_of_near Trunc (ratio_of n d) (pos k), below, more)

cut_down : (n d : ℤ) (k most : ℕ) → 0 < unsigned_abs d → unsigned_abs n ≤ most → unsigned_abs (near Trunc (ratio_of n d) (negsuc k)) ≤ most / 10 ^ suc k
cut_down n d k most h m =
    let top = unsigned_abs (ratio_of n d).top in
    let same : top / ((ratio_of n d).bottom * 10 ^ suc k) ≡ top / (ratio_of n d).bottom / 10 ^ suc k = sym (div-div-eq-div-mul top (ratio_of n d).bottom (10 ^ suc k)) in
    let less : top / (ratio_of n d).bottom ≤ most = omega (arith, div-le_self top (ratio_of n d).bottom, ratio_top n d, m) in
    omega (arith, size_of_near Trunc (ratio_of n d) (negsuc k), same, div_more (top / (ratio_of n d).bottom) most (10 ^ suc k) (omega (arith, ten_positive (suc k))) less)

if_more : (b : Bool) (x y m : ℕ) → (b ≡ true → m ≤ x) → (b ≡ false → m ≤ y) → m ≤ (if b then x else y)
if_more true x y m h k = h refl
if_more false x y m h k = k refl

at_most : (a b : ℕ) → nat_le a b ≡ true → a ≤ b
at_most a b e = grind (arith, nat_tests)

above : (a b : ℕ) → nat_le a b ≡ false → b < a
above a b e = grind (arith, nat_tests)

held_size : (low high z : ℤ) (most : ℕ) → low ≤ℤ z → z ≤ℤ high → unsigned_abs low ≤ most → unsigned_abs high ≤ most → unsigned_abs z ≤ most
held_size low high z most h k l m = omega (arith, ints, h, k, l, m)

cut_within : (scale : ℕ) (top under : Ranged) (n d : Bound) (x y z : ℤ) → IsRangeWithin top n → IsRangeWithin under d → unsigned_abs x ≤ n.most → y ≢ pos 0 → z ≡ near Trunc (ratio_of x y) (up_of scale top under) → unsigned_abs z ≤ (cut_bound n d scale).most
cut_within scale top under n d x y z h k size some e =
    if_more (nat_le n.scale (scale + d.scale)) (n.most * 10 ^ (scale + d.scale - n.scale)) (n.most / 10 ^ (n.scale - (scale + d.scale))) (unsigned_abs z)
    (λ near_.
    let up_is : up_of scale top under ≡ pos (scale + d.scale - n.scale) = omega (arith, ints, h.scale, k.scale, at_most n.scale (scale + d.scale) near_) in
    subst (λ t. unsigned_abs t ≤ n.most * 10 ^ (scale + d.scale - n.scale)) (sym (e ∙ ap (λ up. near Trunc (ratio_of x y) up) up_is))
    (cut_up x y (scale + d.scale - n.scale) n.most (some_size y some) size))
    (λ far_.
    let far = above n.scale (scale + d.scale) far_ in
    let down = n.scale - (scale + d.scale) - 1 in
    let up_is : up_of scale top under ≡ negsuc down = omega (arith, ints, h.scale, k.scale, far) in
    let more : suc down ≡ n.scale - (scale + d.scale) = omega (arith, far) in
    subst (λ t. unsigned_abs t ≤ n.most / 10 ^ (n.scale - (scale + d.scale))) (sym (e ∙ ap (λ up. near Trunc (ratio_of x y) up) up_is))
    (subst (λ m. unsigned_abs (near Trunc (ratio_of x y) (negsuc down)) ≤ n.most / 10 ^ m) more (cut_down x y down n.most (some_size y some) size)))

quotient_within : (scale : ℕ) (top under : Ranged) (n d : Bound) (i : Interval) → IsRangeWithin top n → IsRangeWithin under d → IsLeast (IsQuotient top.units under.units (up_of scale top under) Trunc) i → IsRangeWithin (ranged i scale) (cut_bound n d scale)
quotient_within scale top under n d i h k least = record {
  ordered = (least.holds i.low least.low_is_one).1;
  low = size i.low least.low_is_one;
  high = size i.high least.high_is_one;
  scale = refl;
}
  where
    size : (z : ℤ) → IsQuotient top.units under.units (up_of scale top under) Trunc z → unsigned_abs z ≤ (cut_bound n d scale).most
    size z (x, y, l, m, some, e) = cut_within scale top under n d x y z h k (held_size top.units.low top.units.high x n.most l.0 l.1 h.low h.high) some e

-- ---- remainders

pub small_remainder : (top under : Ranged) (n d : Bound) (scale : ℕ) → IsRangeWithin top n → IsRangeWithin under d → scale ≤ 18 → is_small n ≡ true → is_small d ≡ true → is_small_rest_at n d (cut_bound n d scale) ≡ true → IsSmallRemainder top under scale
small_remainder top under n d scale h k few e f g = record {
  divided = small_range_of top n h e;
  divisor = small_range_of under d k f;
  decimals = few;
  rest = rests (quotient_units Trunc scale top under) (quotients_least Trunc (up_of scale top under) top.units under.units h.ordered k.ordered);
}
  where
    rests : (o : Option Interval) → IsLeastIfAny (IsQuotient top.units under.units (up_of scale top under) Trunc) o → IfSome o (λ i. IsSmallRest top under (ranged i scale))
    rests None least = tt
    rests (Some i) least =
        let l = both (is_small (cut_bound n d scale)) (is_small (product_bound d (cut_bound n d scale)) && is_small (sum_bound n (product_bound d (cut_bound n d scale)))) g in
        let m = both (is_small (product_bound d (cut_bound n d scale))) (is_small (sum_bound n (product_bound d (cut_bound n d scale)))) l.1 in
        let within = quotient_within scale top under n d i h k least in
        let product = product_within under (ranged i scale) d (cut_bound n d scale) k within in
        record {
          quotient = small_range_of (ranged i scale) (cut_bound n d scale) within l.0;
          product = can_multiply under (ranged i scale) d (cut_bound n d scale) k within f l.0 m.0;
          rest = can_add top (turned true (product_range under (ranged i scale))) n (product_bound d (cut_bound n d scale)) h (turned_within true (product_range under (ranged i scale)) (product_bound d (cut_bound n d scale)) product) m.1;
        }
