-- Narrower operands give narrower results.
use Rattle.std.proofs.Common.{◌≡◌, ℕ, ◌+◌, ◌-◌, ◌^◌, ◌||◌, Bool, true, false, ℤ, pos, neg_ℤ, ◌*ℤ◌, ◌-ℤ◌, ◌≤ℤ◌, Option, Some, None, inl, inr, refl, ap, subst, arith}
use Rattle.std.specs.Prelude.{int_lt, is_some}
use Rattle.std.specs.Option.{option_map, option_map_or}
use Rattle.std.proofs.lemmas.Bool.{or_cases}
use Rattle.std.proofs.lemmas.Int.{ints, clamps}
use Rattle.dec_num.specs.declared.types.Mode.{Mode}
use Rattle.dec_num.specs.declared.types.Mode.TheVariants.{Trunc}
use Rattle.dec_num.specs.Exact.{Fraction}
use Rattle.interval_domain.specs.declared.bounds.Interval.{Interval}
use Rattle.interval_domain.specs.Bounds.{Holds}
use Rattle.interval_domain.proofs.IntervalEnds.{times_grows}
use Rattle.cob_program.specs.declared.act.How.{How}
use Rattle.cob_program.specs.declared.act.How.TheVariants as how
use Rattle.cob_program.specs.Values.{with_factor, ◌>>=◌}
use Rattle.sum_ranges.specs.declared.ranged.Ranged.{Ranged}
use Rattle.sum_ranges.specs.Ranged.{ranged, IsNarrower, IsBelow}
use Rattle.sum_ranges.specs.Results.{IsResult}
use Rattle.sum_ranges.specs.SumRanges.{turned, product_range}
use Rattle.sum_ranges.proofs.Operations.{products_least}
use Rattle.sum_ranges.proofs.Least.{in_wider, result_in_wider, least_narrower}
use Rattle.sum_ranges.proofs.Narrow.{wide_ordered, turned_narrower, plus_narrower}
use Rattle.transfer_ranges.specs.declared.amounts.Taken.{Taken}
use Rattle.transfer_ranges.specs.declared.amounts.AmountRange.{AmountRange}
use Rattle.transfer_ranges.specs.declared.amounts.AmountRange.TheVariants as range
use Rattle.transfer_ranges.specs.declared.amounts.Receiver.{Receiver}
use Rattle.transfer_ranges.specs.Amounts.{IsAmount, IsNear, IsNarrowerIfAny, IsNarrowerTaken, IsNarrowerAmount}
use Rattle.transfer_ranges.specs.Operands.{whole_range, computed_range}
use Rattle.transfer_ranges.specs.Results.{IsLeastIfAny, IsInBoth, IsKept, IsInside, IsInsideIfAny}
use Rattle.transfer_ranges.specs.ResultRanges.{if_any, meeting, plus_minus, greatest_size, near_range, quotient_units, limited, rest_range, amount_units, most, fitted, exceeds, result_range, may_fit, may_fail}
use Rattle.transfer_ranges.proofs.Keeping.{both_least, kept_least}
use Rattle.transfer_ranges.proofs.Rounding.{decimals_least, quotient_units_least}
use Rattle.transfer_ranges.proofs.Rests.{difference}

-- ---- intervals

pub inside_of_least : (R S : ℤ → Type 0) (o p : Option Interval) → ((z : ℤ) → R z → S z) → IsLeastIfAny R o → IsLeastIfAny S p → IsInsideIfAny o p
inside_of_least R S None p within h k = tt
inside_of_least R S (Some i) None within h k = k i.low (within i.low h.low_is_one)
inside_of_least R S (Some i) (Some j) within h k = ((k.holds i.low (within i.low h.low_is_one)).0, (k.holds i.high (within i.high h.high_is_one)).1)

held_inside : (i j : Interval) (z : ℤ) → IsInside i j → Holds i z → Holds j z
held_inside i j z h k = (omega (arith, ints, h.0, k.0), omega (arith, ints, h.1, k.1))

pub fitted_inside : (r : Receiver) (i j : Interval) → IsInside i j → IsInsideIfAny (fitted r i) (fitted r j)
fitted_inside r i j h =
    inside_of_least (IsKept r i) (IsKept r j) (fitted r i) (fitted r j)
    (λ z (w, k, e). (w, (held_inside i j w h k.0, k.1), e)) (kept_least r i) (kept_least r j)

below_lower : (x y limit : ℤ) → y ≤ℤ x → int_lt x limit ≡ true → int_lt y limit ≡ true
below_lower x y limit h e = grind (arith, ints)

above_higher : (x y limit : ℤ) → x ≤ℤ y → int_lt limit x ≡ true → int_lt limit y ≡ true
above_higher x y limit h e = grind (arith, ints)

or_left : (p q : Bool) → p ≡ true → (p || q) ≡ true
or_left p q e = rw e refl

or_right : (p q : Bool) → q ≡ true → (p || q) ≡ true
or_right true q e = refl
or_right false q e = e

pub exceeds_inside : (digits : ℕ) (i j : Interval) → IsInside i j → exceeds digits i ≡ true → exceeds digits j ≡ true
exceeds_inside digits i j h e =
    elim (or_cases (int_lt i.low (neg_ℤ (most digits))) (int_lt (most digits) i.high) e) [
      | inl low ↦ or_left (int_lt j.low (neg_ℤ (most digits))) (int_lt (most digits) j.high) (below_lower i.low j.low (neg_ℤ (most digits)) h.0 low)
      | inr high ↦ or_right (int_lt j.low (neg_ℤ (most digits))) (int_lt (most digits) j.high) (above_higher i.high j.high (most digits) h.1 high)
    ]

-- ---- amounts

pub amount_wider : (a b : AmountRange) (v : Fraction) → IsNarrowerAmount a b → IsAmount a v → IsAmount b v
amount_wider (range.Decimal a) (range.Decimal b) v n (x, h, e) = (x, in_wider x a b n h, e)
amount_wider (range.Decimal a) (range.Quotient top under) v n h = absurd n
amount_wider (range.Decimal a) (range.Remainder top under k) v n h = absurd n
amount_wider (range.Quotient n d) (range.Decimal b) v m h = absurd m
amount_wider (range.Quotient n d) (range.Quotient top under) v (p, q) (x, y, h, k, e) = (x, y, in_wider x n top p h, in_wider y d under q k, e)
amount_wider (range.Quotient n d) (range.Remainder top under k) v m h = absurd m
amount_wider (range.Remainder n d j) (range.Decimal b) v m h = absurd m
amount_wider (range.Remainder n d j) (range.Quotient top under) v m h = absurd m
amount_wider (range.Remainder n d j) (range.Remainder top under k) v (p, q, s) (x, y, z, h, l, e, f) =
    subst (λ i. IsAmount (range.Remainder top under i) v) s (x, y, z, in_wider x n top p h, in_wider y d under q l, e, f)

near_wider : (mode : Mode) (scale : ℕ) (a b : AmountRange) → IsNarrowerAmount a b → (z : ℤ) → IsNear mode scale a z → IsNear mode scale b z
near_wider mode scale a b n z (v, h, e) = (v, amount_wider a b v n h, e)

-- ---- units

pub decimals_inside : (mode : Mode) (scale : ℕ) (a b : Ranged) → IsNarrower a b → IsInside (near_range mode scale a) (near_range mode scale b)
decimals_inside mode scale a b n =
    inside_of_least (IsNear mode scale (range.Decimal a)) (IsNear mode scale (range.Decimal b)) (Some (near_range mode scale a)) (Some (near_range mode scale b))
    (near_wider mode scale (range.Decimal a) (range.Decimal b) n) (decimals_least mode scale a n.ordered) (decimals_least mode scale b (wide_ordered a b n))

pub quotients_inside : (mode : Mode) (scale : ℕ) (n d top under : Ranged) → IsNarrower n top → IsNarrower d under → IsInsideIfAny (quotient_units mode scale n d) (quotient_units mode scale top under)
quotients_inside mode scale n d top under p q =
    inside_of_least (IsNear mode scale (range.Quotient n d)) (IsNear mode scale (range.Quotient top under)) (quotient_units mode scale n d) (quotient_units mode scale top under)
    (near_wider mode scale (range.Quotient n d) (range.Quotient top under) (p, q))
    (quotient_units_least mode scale n d p.ordered q.ordered) (quotient_units_least mode scale top under (wide_ordered n top p) (wide_ordered d under q))

-- ---- remainders

pub product_narrower : (a b c d : Ranged) → IsNarrower a c → IsNarrower b d → IsNarrower (product_range a b) (product_range c d)
product_narrower a b c d n m =
    least_narrower (IsResult (with_factor false) a b) (IsResult (with_factor false) c d) (product_range a b) (product_range c d)
    (result_in_wider (with_factor false) a b c d n m)
    (products_least a b n.ordered m.ordered) (products_least c d (wide_ordered a c n) (wide_ordered b d m))

ranged_narrower : (i j : Interval) (scale : ℕ) → i.low ≤ℤ i.high → IsInside i j → IsNarrower (ranged i scale) (ranged j scale)
ranged_narrower i j scale ordered h = record { ordered = ordered; low = h.0; high = h.1; scale = refl }

mapped_narrower : (R : ℤ → Type 0) (o p : Option Interval) (j k : ℕ) → j ≡ k → IsLeastIfAny R o → IsInsideIfAny o p → IsBelow (option_map (λ i. ranged i j) o) (option_map (λ i. ranged i k) p)
mapped_narrower R None p j k e l h = tt
mapped_narrower R (Some a) None j k e l h = absurd h
mapped_narrower R (Some a) (Some b) j k e l h = record { ordered = (l.holds a.low l.low_is_one).1; low = h.0; high = h.1; scale = e }

limit_wider : (size wide z : ℤ) (j k : ℕ) → size ≤ℤ wide → j ≡ k → Holds (plus_minus ((size *ℤ pos (10 ^ j)) -ℤ pos 1)) z → Holds (plus_minus ((wide *ℤ pos (10 ^ k)) -ℤ pos 1)) z
limit_wider size wide z j k h e held =
    let grows = times_grows size wide (10 ^ j) h in
    subst (λ i. Holds (plus_minus ((wide *ℤ pos (10 ^ i)) -ℤ pos 1)) z) e (omega (arith, ints, grows, held.0), omega (arith, ints, grows, held.1))

limited_below : (size wide : ℤ) (j k : ℕ) (r s : Ranged) → size ≤ℤ wide → j ≡ k → IsNarrower r s → IsBelow (limited size j r) (limited wide k s)
limited_below size wide j k r s h e n =
    let shift : r.scale - j ≡ s.scale - k = rw (n.scale, e) refl in
    let narrow = plus_minus ((size *ℤ pos (10 ^ (r.scale - j))) -ℤ pos 1) in
    let broad = plus_minus ((wide *ℤ pos (10 ^ (s.scale - k))) -ℤ pos 1) in
    mapped_narrower (IsInBoth r.units narrow) (if_any (meeting r.units narrow)) (if_any (meeting s.units broad)) r.scale s.scale n.scale
    (both_least r.units narrow)
    (inside_of_least (IsInBoth r.units narrow) (IsInBoth s.units broad) (if_any (meeting r.units narrow)) (if_any (meeting s.units broad))
    (λ z (a, b). (held_inside r.units s.units z (n.low, n.high) a, limit_wider size wide z (r.scale - j) (s.scale - k) h shift b))
    (both_least r.units narrow) (both_least s.units broad))

size_grows : (i j : Interval) → IsInside i j → greatest_size i ≤ℤ greatest_size j
size_grows i j h = omega (arith, ints, clamps, h.0, h.1)

pub rest_below : (scale : ℕ) (n d top under : Ranged) → IsNarrower n top → IsNarrower d under → IsBelow (rest_range scale n d) (rest_range scale top under)
rest_below scale n d top under p q =
    go (quotient_units Trunc scale n d) (quotient_units Trunc scale top under)
    (quotient_units_least Trunc scale n d p.ordered q.ordered) (quotients_inside Trunc scale n d top under p q)
  where
    go : (a b : Option Interval) → IsLeastIfAny (IsNear Trunc scale (range.Quotient n d)) a → IsInsideIfAny a b →
        IsBelow (a >>= λ i. limited (greatest_size d.units) (d.scale + scale) (difference n d scale i)) (b >>= λ j. limited (greatest_size under.units) (under.scale + scale) (difference top under scale j))
    go None b l h = tt
    go (Some i) None l h = absurd h
    go (Some i) (Some j) l h =
        limited_below (greatest_size d.units) (greatest_size under.units) (d.scale + scale) (under.scale + scale) (difference n d scale i) (difference top under scale j)
        (size_grows d.units under.units (q.low, q.high)) (ap (λ s. s + scale) q.scale)
        (plus_narrower n (turned true (product_range d (ranged i scale))) top (turned true (product_range under (ranged j scale))) p
        (turned_narrower true (product_range d (ranged i scale)) (product_range under (ranged j scale))
        (product_narrower d (ranged i scale) under (ranged j scale) q (ranged_narrower i j scale (l.holds i.low l.low_is_one).1 h))))

near_below : (mode : Mode) (scale : ℕ) (o p : Option Ranged) → IsBelow o p → IsInsideIfAny (option_map (near_range mode scale) o) (option_map (near_range mode scale) p)
near_below mode scale None p h = tt
near_below mode scale (Some a) None h = absurd h
near_below mode scale (Some a) (Some b) h = decimals_inside mode scale a b h

pub units_inside : (mode : Mode) (scale : ℕ) (a b : AmountRange) → IsNarrowerAmount a b → IsInsideIfAny (amount_units mode scale a) (amount_units mode scale b)
units_inside mode scale (range.Decimal a) (range.Decimal b) n = decimals_inside mode scale a b n
units_inside mode scale (range.Decimal a) (range.Quotient top under) n = absurd n
units_inside mode scale (range.Decimal a) (range.Remainder top under k) n = absurd n
units_inside mode scale (range.Quotient n d) (range.Decimal b) m = absurd m
units_inside mode scale (range.Quotient n d) (range.Quotient top under) (p, q) = quotients_inside mode scale n d top under p q
units_inside mode scale (range.Quotient n d) (range.Remainder top under k) m = absurd m
units_inside mode scale (range.Remainder n d j) (range.Decimal b) m = absurd m
units_inside mode scale (range.Remainder n d j) (range.Quotient top under) m = absurd m
units_inside mode scale (range.Remainder n d j) (range.Remainder top under k) (p, q, s) =
    subst (λ i. IsInsideIfAny (amount_units mode scale (range.Remainder n d j)) (amount_units mode scale (range.Remainder top under i))) s
    (near_below mode scale (rest_range j n d) (rest_range j top under) (rest_below j n d top under p q))

-- ---- results

fitted_below : (r : Receiver) (o p : Option Interval) → IsInsideIfAny o p → IsInsideIfAny (o >>= fitted r) (p >>= fitted r)
fitted_below r None p h = tt
fitted_below r (Some i) None h = absurd h
fitted_below r (Some i) (Some j) h = fitted_inside r i j h

pub results_inside : (mode : Mode) (r : Receiver) (a b : AmountRange) → IsNarrowerAmount a b → IsInsideIfAny (result_range mode r a) (result_range mode r b)
results_inside mode r a b n = fitted_below r (amount_units mode r.scale a) (amount_units mode r.scale b) (units_inside mode r.scale a b n)

some_above : (o p : Option Interval) → IsInsideIfAny o p → is_some o ≡ true → is_some p ≡ true
some_above None p h e = absurd cc
some_above (Some i) None h e = absurd h
some_above (Some i) (Some j) h e = refl

pub may_fit_wider : (mode : Mode) (r : Receiver) (a b : AmountRange) → IsNarrowerAmount a b → may_fit mode r a ≡ true → may_fit mode r b ≡ true
may_fit_wider mode r a b n e = some_above (result_range mode r a) (result_range mode r b) (results_inside mode r a b n) e

exceeds_above : (digits : ℕ) (o p : Option Interval) → IsInsideIfAny o p → option_map_or (exceeds digits) o false ≡ true → option_map_or (exceeds digits) p false ≡ true
exceeds_above digits None p h e = absurd cc
exceeds_above digits (Some i) None h e = absurd h
exceeds_above digits (Some i) (Some j) h e = exceeds_inside digits i j h e

pub may_fail_wider : (mode : Mode) (r : Receiver) (a b : AmountRange) → IsNarrowerAmount a b → may_fail mode r a ≡ true → may_fail mode r b ≡ true
may_fail_wider mode r a b n e = exceeds_above r.digits (amount_units mode r.scale a) (amount_units mode r.scale b) (units_inside mode r.scale a b n) e

-- ---- what is worked out of operands

whole_narrower : (a b : Ranged) (c d : Option Ranged) → IsNarrower a b → IsNarrowerIfAny c d → IsNarrowerAmount (whole_range a c) (whole_range b d)
whole_narrower a b None None n m = n
whole_narrower a b None (Some d) n m = absurd m
whole_narrower a b (Some c) None n m = absurd m
whole_narrower a b (Some c) (Some d) n m = (n, m)

pub computed_narrower : (how_ : How) (own wider : Ranged) (t u : Taken) → IsNarrower own wider → IsNarrowerTaken t u → IsNarrowerAmount (computed_range how_ own t) (computed_range how_ wider u)
computed_narrower how.Whole own wider t u n m = whole_narrower t.top u.top t.under u.under m.top m.under
computed_narrower how.Plus own wider t u n m = plus_narrower own t.top wider u.top n m.top
computed_narrower how.Minus own wider t u n m = plus_narrower own (turned true t.top) wider (turned true u.top) n (turned_narrower true t.top u.top m.top)
computed_narrower how.Times own wider t u n m = product_narrower own t.top wider u.top n m.top
computed_narrower how.Under own wider t u n m = (n, m.top)
