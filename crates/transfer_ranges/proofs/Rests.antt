-- A remainder lies in its range.
use Rattle.std.proofs.Common.{◌≡◌, ℕ, ◌+◌, ◌-◌, ◌*◌, ◌^◌, ◌<◌, true, false, max, ℤ, pos, ◌*ℤ◌, ◌-ℤ◌, ◌≤ℤ◌, Option, Some, None, refl, ap, subst, arith}
use Rattle.std.specs.Prelude.{unsigned_abs, IsSomeAnd}
use Rattle.std.specs.Option.{option_map}
use Rattle.std.proofs.lemmas.Int.{ints, clamps}
use Rattle.std.proofs.lemmas.Nat.{mul-le}
use Rattle.dec_num.specs.declared.types.Mode.TheVariants.{Trunc}
use Rattle.dec_num.specs.declared.types.Scaled.{Scaled}
use Rattle.dec_num.specs.Exact.{Fraction, near}
use Rattle.interval_domain.specs.declared.bounds.Interval.{Interval}
use Rattle.interval_domain.specs.Bounds.{Holds}
use Rattle.cob_program.specs.Values.{negated, plus, product, exact_quotient, with_factor, ◌>>=◌}
use Rattle.cob_program.proofs.Steps.{some_bound, some_same}
use Rattle.cob_runs.specs.Computing.{cut_quotient}
use Rattle.sum_ranges.specs.declared.ranged.Ranged.{Ranged}
use Rattle.sum_ranges.specs.Ranged.{ranged, IsIn}
use Rattle.sum_ranges.specs.Results.{IsResult}
use Rattle.sum_ranges.specs.SumRanges.{turned, plus_range, product_range}
use Rattle.sum_ranges.proofs.Least.{ordered_of, in_least}
use Rattle.sum_ranges.proofs.Operations.{sums_least, products_least}
use Rattle.sum_ranges.proofs.Sound.{turned_in}
use Rattle.transfer_ranges.specs.declared.amounts.AmountRange.TheVariants as range
use Rattle.transfer_ranges.specs.Amounts.{IsNear, rest}
use Rattle.transfer_ranges.specs.Results.{IsLeastIfAny, IsInBoth}
use Rattle.transfer_ranges.specs.ResultRanges.{if_any, meeting, plus_minus, greatest_size, quotient_units, limited, rest_range}
use Rattle.transfer_ranges.proofs.Keeping.{both_least}
use Rattle.transfer_ranges.proofs.Rounding.{exact_parts, quotient_units_least}
use Rattle.transfer_ranges.proofs.Leftovers.{rest_bounded}

-- ---- one after the other

pub then_held : {A B : Type 0} (o : Option A) (P : A → Type 0) (Q : B → Type 0) (next : A → Option B) → IsSomeAnd o P → ((a : A) → P a → IsSomeAnd (next a) Q) → IsSomeAnd (o >>= next) Q
then_held None P Q next h k = h
then_held (Some a) P Q next h k = k a h

pub mapped_held : {A B : Type 0} (o : Option A) (P : A → Type 0) (Q : B → Type 0) (f : A → B) → IsSomeAnd o P → ((a : A) → P a → Q (f a)) → IsSomeAnd (option_map f o) Q
mapped_held None P Q f h k = h
mapped_held (Some a) P Q f h k = k a h

pub held_of_least : (R : ℤ → Type 0) (o : Option Interval) (z : ℤ) → IsLeastIfAny R o → R z → IsSomeAnd o (λ i. Holds i z)
held_of_least R None z h k = h z k
held_of_least R (Some i) z h k = h.holds z k

-- ---- operations

pub plus_in : (v w : Scaled) (a b : Ranged) → IsIn v a → IsIn w b → IsIn (plus v w) (plus_range a b)
plus_in v w a b h k =
    in_least (IsResult (λ x y. Some (plus x y)) a b) (plus_range a b) (plus v w) (sums_least a b (ordered_of v a h) (ordered_of w b k)) (v, w, h, k, refl)

pub product_in : (v w : Scaled) (a b : Ranged) → IsIn v a → IsIn w b → IsIn (product v w) (product_range a b)
product_in v w a b h k =
    in_least (IsResult (with_factor false) a b) (product_range a b) (product v w) (products_least a b (ordered_of v a h) (ordered_of w b k)) (v, w, h, k, refl)

-- ---- limits

size_held : (i : Interval) (z : ℤ) → Holds i z → pos (unsigned_abs z) ≤ℤ greatest_size i
size_held i z h = omega (arith, ints, clamps, h.0, h.1)

limit_times : (size : ℤ) (n k : ℕ) → pos n ≤ℤ size → pos (n * k) ≤ℤ (size *ℤ pos k)
limit_times (pos m) n k h = omega (arith, ints, mul-le n k m k (omega (arith, ints, h)) (omega arith))
limit_times size n k h = absurd (omega (arith, ints, h))

within_limit : (limit z : ℤ) → pos (unsigned_abs z) ≤ℤ limit → Holds (plus_minus limit) z
within_limit limit z h = (omega (arith, ints, h), omega (arith, ints, h))

pub limited_in : (size : ℤ) (scale : ℕ) (r : Ranged) (x : Scaled) → IsIn x r → pos (unsigned_abs x.units) ≤ℤ ((size *ℤ pos (10 ^ (r.scale - scale))) -ℤ pos 1) → IsSomeAnd (limited size scale r) (IsIn x)
limited_in size scale r x h k =
    let limit = (size *ℤ pos (10 ^ (r.scale - scale))) -ℤ pos 1 in
    mapped_held (if_any (meeting r.units (plus_minus limit))) (λ i. Holds i x.units) (IsIn x) (λ i. ranged i r.scale)
    (held_of_least (IsInBoth r.units (plus_minus limit)) (if_any (meeting r.units (plus_minus limit))) x.units (both_least r.units (plus_minus limit)) (h.held, within_limit limit x.units k))
    (λ i l. record { held = l; scale = h.scale })

-- ---- remainders

-- divisor times cut quotient, taken from what is divided
abbrev pub difference : Ranged → Ranged → ℕ → Interval → Ranged
difference n d scale q = plus_range n (turned true (product_range d (ranged q scale)))

abbrev pub left : Scaled → Scaled → Scaled → Scaled
left n d cut = plus n (negated true (product d cut))

cut_in : (scale : ℕ) (n d : Scaled) (top under : Ranged) (q : Fraction) → IsIn n top → IsIn d under → exact_quotient n d ≡ Some q → IsSomeAnd (quotient_units Trunc scale top under) (λ i. Holds i (near Trunc q (pos scale)))
cut_in scale n d top under q h k e =
    held_of_least (IsNear Trunc scale (range.Quotient top under)) (quotient_units Trunc scale top under) (near Trunc q (pos scale))
    (quotient_units_least Trunc scale top under (ordered_of n top h) (ordered_of d under k)) (q, (n, d, h, k, e), refl)

left_in : (scale : ℕ) (n d : Scaled) (top under : Ranged) (q : Fraction) (i : Interval) → IsIn n top → IsIn d under → Holds i (near Trunc q (pos scale)) → IsIn (left n d (cut_quotient scale q)) (difference top under scale i)
left_in scale n d top under q i h k l =
    plus_in n (negated true (product d (cut_quotient scale q))) top (turned true (product_range under (ranged i scale))) h
    (turned_in true (product d (cut_quotient scale q)) (product_range under (ranged i scale))
    (product_in d (cut_quotient scale q) under (ranged i scale) k (record { held = l; scale = refl })))

left_small : (scale : ℕ) (n d : Scaled) (top under : Ranged) (q : Fraction) → IsIn n top → IsIn d under → exact_quotient n d ≡ Some q →
    pos (unsigned_abs (left n d (cut_quotient scale q)).units) ≤ℤ ((greatest_size under.units *ℤ pos (10 ^ (max top.scale (under.scale + scale) - (under.scale + scale)))) -ℤ pos 1)
left_small scale n d top under q h k e =
    let parts = exact_parts n d q e in
    let bounded = rest_bounded scale n d (near Trunc q (pos scale)) parts.0 (ap (λ w. near Trunc w (pos scale)) parts.1) in
    let scales : max n.scale (d.scale + scale) - (d.scale + scale) ≡ max top.scale (under.scale + scale) - (under.scale + scale) = rw (h.scale, k.scale) refl in
    let shift : ℕ = max top.scale (under.scale + scale) - (under.scale + scale) in
    let at_scales : unsigned_abs (left n d (cut_quotient scale q)).units < unsigned_abs d.units * 10 ^ shift =
    subst (λ s. unsigned_abs (left n d (cut_quotient scale q)).units < unsigned_abs d.units * 10 ^ s) scales bounded in
    omega (arith, ints, at_scales, limit_times (greatest_size under.units) (unsigned_abs d.units) (10 ^ shift) (size_held under.units d.units k.held))

pub rest_in : (scale : ℕ) (n d x : Scaled) (top under : Ranged) → IsIn n top → IsIn d under → rest scale n d ≡ Some x → IsSomeAnd (rest_range scale top under) (IsIn x)
rest_in scale n d x top under h k e =
    let q = some_bound (exact_quotient n d) (λ q. Some (left n d (cut_quotient scale q))) x e in
    let is : left n d (cut_quotient scale q.0) ≡ x = some_same (left n d (cut_quotient scale q.0)) x q.2 in
    subst (λ y. IsSomeAnd (rest_range scale top under) (IsIn y)) is
    (then_held (quotient_units Trunc scale top under) (λ i. Holds i (near Trunc q.0 (pos scale))) (IsIn (left n d (cut_quotient scale q.0)))
    (λ i. limited (greatest_size under.units) (under.scale + scale) (difference top under scale i))
    (cut_in scale n d top under q.0 h k q.1)
    (λ i l. limited_in (greatest_size under.units) (under.scale + scale) (difference top under scale i) (left n d (cut_quotient scale q.0))
    (left_in scale n d top under q.0 i h k l) (left_small scale n d top under q.0 h k q.1)))
