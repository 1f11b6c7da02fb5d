-- The range of a sum, one step of the work after the other, and room for each step.
use Rattle.std.proofs.Common.{◌≡◌, ℕ, ◌+◌, ◌-◌, ◌*◌, ◌^◌, ◌≤◌, ◌<◌, ◌&&◌, ◌||◌, ℤ, pos, ◌*ℤ◌, ◌≤ℤ◌, ◌⊎◌, inl, inr, Bool, true, false, Some, None, refl, sym, ap, subst, ◌∙◌, arith}
use Rattle.std.specs.Prelude.{unsigned_abs, nat_le, ◌≢◌}
use Rattle.std.proofs.lemmas.Int.{ints}
use Rattle.std.proofs.lemmas.Nat.{mul-le}
use Rattle.std.proofs.lemmas.Bool.{cases_lt}
use Rattle.std.proofs.Math.Nat.{le_refl}
use Rattle.dec_num.specs.declared.types.Mode.TheVariants.{Trunc}
use Rattle.dec_num.specs.Exact.{ratio_of, near}
use Rattle.dec_num.proofs.Powers.{ten_monotone}
use Rattle.dec_num.proofs.Bounds.{size_of_sum, size_of_product, size_of_units_at}
use Rattle.interval_domain.specs.Bounds.{Holds, IsSmall, IsInterval}
use Rattle.interval_domain.specs.Results.{IsSum, AreSmall}
use Rattle.interval_domain.proofs.IntervalEnds.{times_grows}
use Rattle.cob_program.specs.Sum.{Parts, more_parts, Part, Factors, no_factors, more_factors, Factor, MkFactor, Atom}
use Rattle.cob_program.specs.Values.{whole_number, quotient_scale, ◌>>=◌}
use Rattle.cob_program.specs.Bounds.{Bound, exactly, joint, raised, sum_bound, product_bound, quotient_bound, factor_bound, is_small, part_most, atom_most, is_small_sum_from, is_small_part, is_small_product, is_small_atom}
use Rattle.cob_program.proofs.Steps.{some_bound, both, whole_within, factor_within}
pub use Rattle.cob_program.proofs.SmallSums.{small_atom_most}
use Rattle.cob_program.proofs.SmallSums.{bind_bind, at_most, one_is_small, none_is_small}
use Rattle.sum_ranges.specs.declared.ranged.Ranged.{Ranged}
use Rattle.sum_ranges.specs.Ranged.{decimal, point}
use Rattle.sum_ranges.specs.SumRanges as range
use Rattle.sum_ranges.specs.SumRanges.{turned, plus_range, factor_range, shift, sum_range_from, part_range, product_range_from, atom_range}
use Rattle.sum_ranges.specs.Sizes.{IsRangeWithin, IsSmallRange}
use Rattle.sum_ranges.specs.Vanishing.{holds_zero, may_vanish_in_parts, may_vanish_in_part, may_vanish_in_product, may_vanish_in_atom}
use Rattle.sum_ranges.specs.Working.{CanAddRanges, CanMultiplyRanges, CanDivideRanges, CanScaleRange, AreBounded, one_factor_range, HasRoom, HasRoomInSum, HasSmallFactors, HasSmallParts, operand, may_vanish_in_factor}
use Rattle.sum_ranges.proofs.Operations.{not_zero, quotient_there}
use Rattle.sum_ranges.proofs.Least.{in_within}
use Rattle.sum_ranges.proofs.Bounded.{point_within, turned_within, plus_range_within, factor_range_within, small_range_of, part_range_within, atom_range_within}

-- ---- one factor after the other

pub factor_first : (items : ℕ → Ranged) (a : Ranged) (f : Factor) (fs : Factors) → product_range_from items a (more_factors f fs) ≡ (one_factor_range items a f >>= λ b. product_range_from items b fs)
factor_first items a (MkFactor over minus atom) fs = bind_bind (atom_range items atom) (λ b. factor_range over a (turned minus b)) (λ b. product_range_from items b fs)

pub product_ends : (items : ℕ → Ranged) (a : Ranged) (f : Factor) (fs : Factors) → None ≡ one_factor_range items a f → None ≡ product_range_from items a (more_factors f fs)
product_ends items a f fs none = sym (factor_first items a f fs ∙ ap (λ o. o >>= λ b. product_range_from items b fs) (sym none))

pub product_goes_on : (items : ℕ → Ranged) (a b : Ranged) (f : Factor) (fs : Factors) → Some b ≡ one_factor_range items a f → product_range_from items b fs ≡ product_range_from items a (more_factors f fs)
product_goes_on items a b f fs some = sym (factor_first items a f fs ∙ ap (λ o. o >>= λ b. product_range_from items b fs) (sym some))

pub sum_ends : (items : ℕ → Ranged) (a : Ranged) (p : Part) (ps : Parts) → None ≡ part_range items p → None ≡ sum_range_from items a (more_parts p ps)
sum_ends items a p ps none = ap (λ o. o >>= λ b. sum_range_from items (plus_range a b) ps) none

pub sum_goes_on : (items : ℕ → Ranged) (a b next : Ranged) (p : Part) (ps : Parts) → Some b ≡ part_range items p → next ≡ plus_range a b → sum_range_from items next ps ≡ sum_range_from items a (more_parts p ps)
sum_goes_on items a b next p ps some made = ap (λ x. sum_range_from items x ps) made ∙ ap (λ o. o >>= λ b. sum_range_from items (plus_range a b) ps) some

-- ---- what is left has room

one_within : IsRangeWithin (point (whole_number (pos 1))) (exactly 1)
one_within = point_within (whole_number (pos 1)) (exactly 1) (whole_within 1)

none_within : IsRangeWithin (point (whole_number (pos 0))) (exactly 0)
none_within = point_within (whole_number (pos 0)) (exactly 0) (whole_within 0)

pub room_at_first : (bound : ℕ → Bound) (a : Ranged) (fs : Factors) → a ≡ point (whole_number (pos 1)) → is_small_product bound (exactly 1) fs ≡ true → HasRoom bound a fs
room_at_first bound a fs is e = record { most = exactly 1; within = subst (λ x. IsRangeWithin x (exactly 1)) (sym is) one_within; small = one_is_small; factors = e }

pub room_for_one : (bound : ℕ → Bound) (a : Ranged) (f : Factor) (fs : Factors) → HasRoom bound a (more_factors f fs) → HasRoom bound a (more_factors f no_factors)
room_for_one bound a (MkFactor over minus atom) fs h =
    let next = factor_bound over h.most (atom_most bound atom) in
    let l = both (is_small_atom bound atom) (is_small next && is_small_product bound next fs) h.factors in
    let m = both (is_small next) (is_small_product bound next fs) l.1 in
    record { most = h.most; within = h.within; small = h.small; factors = rw (l.0, m.0) refl }

pub atom_has_room : (bound : ℕ → Bound) (a : Ranged) (over minus : Bool) (atom : Atom) (fs : Factors) → HasRoom bound a (more_factors (MkFactor over minus atom) fs) → is_small_atom bound atom ≡ true
atom_has_room bound a over minus atom fs h =
    let next = factor_bound over h.most (atom_most bound atom) in
    (both (is_small_atom bound atom) (is_small next && is_small_product bound next fs) h.factors).0

pub next_has_room : (items : ℕ → Ranged) (bound : ℕ → Bound) (a b : Ranged) (f : Factor) (fs : Factors) → AreBounded items bound → HasRoom bound a (more_factors f fs) → Some b ≡ one_factor_range items a f → HasRoom bound b fs
next_has_room items bound a b (MkFactor over minus atom) fs bounded h some =
    let next = factor_bound over h.most (atom_most bound atom) in
    let l = both (is_small_atom bound atom) (is_small next && is_small_product bound next fs) h.factors in
    let m = both (is_small next) (is_small_product bound next fs) l.1 in
    let by = some_bound (atom_range items atom) (λ x. factor_range over a (turned minus x)) b (sym some) in
    let w = turned_within minus by.0 (atom_most bound atom) (atom_range_within items bound bounded.held atom by.0 by.1) in
    record {
      most = next;
      within = factor_range_within over a (turned minus by.0) b h.most (atom_most bound atom) h.within w by.2;
      small = m.0;
      factors = m.1;
    }

pub room_is_small : (bound : ℕ → Bound) (a : Ranged) (fs : Factors) → HasRoom bound a fs → IsSmallRange a
room_is_small bound a fs h = small_range_of a h.most h.within h.small

pub sum_room_at_first : (bound : ℕ → Bound) (a : Ranged) (ps : Parts) → a ≡ point (whole_number (pos 0)) → is_small_sum_from bound (exactly 0) ps ≡ true → HasRoomInSum bound a ps
sum_room_at_first bound a ps is e = record { most = exactly 0; within = subst (λ x. IsRangeWithin x (exactly 0)) (sym is) none_within; small = none_is_small; parts = e }

pub sum_room_is_small : (bound : ℕ → Bound) (a : Ranged) (ps : Parts) → HasRoomInSum bound a ps → IsSmallRange a
sum_room_is_small bound a ps h = small_range_of a h.most h.within h.small

pub part_has_room : (bound : ℕ → Bound) (a : Ranged) (p : Part) (ps : Parts) → HasRoomInSum bound a (more_parts p ps) → is_small_part bound p ≡ true
part_has_room bound a p ps h =
    let next = sum_bound h.most (part_most bound p) in
    (both (is_small_part bound p) (is_small next && is_small_sum_from bound next ps) h.parts).0

pub next_has_room_in_sum : (items : ℕ → Ranged) (bound : ℕ → Bound) (a b : Ranged) (p : Part) (ps : Parts) → AreBounded items bound → HasRoomInSum bound a (more_parts p ps) → Some b ≡ part_range items p → HasRoomInSum bound (plus_range a b) ps
next_has_room_in_sum items bound a b p ps bounded h some =
    let next = sum_bound h.most (part_most bound p) in
    let l = both (is_small_part bound p) (is_small next && is_small_sum_from bound next ps) h.parts in
    let m = both (is_small next) (is_small_sum_from bound next ps) l.1 in
    record {
      most = next;
      within = plus_range_within a b h.most (part_most bound p) h.within (part_range_within items bound bounded.held p b (sym some));
      small = m.0;
      parts = m.1;
    }

-- ---- small results

pub item_small : (items : ℕ → Ranged) (bound : ℕ → Bound) (place : ℕ) (r : Ranged) → AreBounded items bound → is_small (bound place) ≡ true → r ≡ items place → IsSmallRange r
item_small items bound place r bounded e is = subst IsSmallRange (sym is) (small_range_of (items place) (bound place) (bounded.held place) e)

-- ---- an operation can be worked

raised_end : (z : ℤ) (s scale : ℕ) (b : Bound) → unsigned_abs z ≤ b.most → s ≡ b.scale → unsigned_abs (z *ℤ pos (10 ^ (scale - s))) ≤ raised b scale
raised_end z s scale b h e = rw (← e) (size_of_units_at (decimal z s) scale b.most h)

pub raised_small : (a : Ranged) (b : Bound) (scale most : ℕ) → IsRangeWithin a b → raised b scale ≤ most → most < 10 ^ 37 → IsInterval (range.raised a scale)
raised_small a b scale most h k l = record {
  ordered = times_grows a.units.low a.units.high (10 ^ (scale - a.scale)) h.ordered;
  low = omega (arith, raised_end a.units.low a.scale scale b h.low h.scale, k, l);
  high = omega (arith, raised_end a.units.high a.scale scale b h.high h.scale, k, l);
}

held_size : (low high z : ℤ) (most : ℕ) → low ≤ℤ z → z ≤ℤ high → unsigned_abs low ≤ most → unsigned_abs high ≤ most → unsigned_abs z ≤ most
held_size low high z most h k l m = omega (arith, ints, h, k, l, m)

pub can_add : (a b : Ranged) (c d : Bound) → IsRangeWithin a c → IsRangeWithin b d → is_small (sum_bound c d) ≡ true → CanAddRanges a b
can_add a b c d h k e =
    let l = both (nat_le (sum_bound c d).most (10 ^ 37 - 1)) (nat_le (sum_bound c d).scale 37) e in
    let most = at_most (sum_bound c d).most (10 ^ 37 - 1) l.0 in
    let scale : range.joint a b ≡ joint c d = rw (h.scale, k.scale) refl in
    let left = raised_small a c (joint c d) (raised c (joint c d)) h (le_refl _) (omega (arith, most)) in
    let right = raised_small b d (joint c d) (raised d (joint c d)) k (le_refl _) (omega (arith, most)) in
    record {
      left = subst (λ s. IsInterval (range.raised a s)) (sym scale) left;
      right = subst (λ s. IsInterval (range.raised b s)) (sym scale) right;
      sums = subst (λ s. AreSmall (IsSum (range.raised a s) (range.raised b s))) (sym scale) (λ z m.
          let left_size = held_size _ _ m.0 (raised c (joint c d)) m.2.0 m.2.1 (raised_end a.units.low a.scale (joint c d) c h.low h.scale) (raised_end a.units.high a.scale (joint c d) c h.high h.scale) in
          let right_size = held_size _ _ m.1 (raised d (joint c d)) m.3.0 m.3.1 (raised_end b.units.low b.scale (joint c d) d k.low k.scale) (raised_end b.units.high b.scale (joint c d) d k.high k.scale) in
          subst IsSmall (sym m.4) (omega (arith, size_of_sum m.0 m.1, left_size, right_size, most)));
      scale = omega (arith, scale, at_most (sum_bound c d).scale 37 l.1);
    }

pub can_multiply : (a b : Ranged) (c d : Bound) → IsRangeWithin a c → IsRangeWithin b d → is_small c ≡ true → is_small d ≡ true → is_small (product_bound c d) ≡ true → CanMultiplyRanges a b
can_multiply a b c d h k sc sd e =
    let l = both (nat_le (product_bound c d).most (10 ^ 37 - 1)) (nat_le (product_bound c d).scale 37) e in
    let most = at_most (product_bound c d).most (10 ^ 37 - 1) l.0 in
    record {
      left = (small_range_of a c h sc).units;
      right = (small_range_of b d k sd).units;
      products = λ z m.
          let left_size = held_size _ _ m.0 c.most m.2.0 m.2.1 h.low h.high in
          let right_size = held_size _ _ m.1 d.most m.3.0 m.3.1 k.low k.high in
          subst IsSmall (sym m.4) (omega (arith, size_of_product m.0 m.1 c.most d.most left_size right_size, most));
      scale = omega (arith, h.scale, k.scale, at_most (product_bound c d).scale 37 l.1);
    }

-- a range that isn't 0 alone has a bound that isn't 0
shifted_least : (m k : ℕ) → 0 < m → m * 10 ^ k ≤ 10 ^ 37 - 1 → k ≤ 36
shifted_least m k some h = elim (cases_lt 36 k) as (λ _. k ≤ 36) [
  | inl long ↦ absurd (omega (arith, ten_monotone 37 k long, mul-le 1 (10 ^ k) m (10 ^ k) some (le_refl (10 ^ k)), h))
  | inr short ↦ short
]

size_is_none : (z : ℤ) (m : ℕ) → unsigned_abs z ≤ m → m ≡ 0 → z ≡ pos 0
size_is_none z m h e = omega (arith, ints, h, e)

few_decimals : (a : Ranged) (c : Bound) (k : ℕ) → IsRangeWithin a c → c.most * 10 ^ k ≤ 10 ^ 37 - 1 → (a.units.low ≢ pos 0) ⊎ (a.units.high ≢ pos 0) → k ≤ 55
few_decimals a c k h e some = elim (cases_lt 0 c.most) as (λ _. k ≤ 55) [
  | inl more ↦ omega (arith, shifted_least c.most k more e)
  | inr none ↦ elim some as (λ _. k ≤ 55) [
    | inl low ↦ absurd (low (size_is_none a.units.low c.most h.low (omega (arith, none))))
    | inr high ↦ absurd (high (size_is_none a.units.high c.most h.high (omega (arith, none))))
  ]
]

pub can_divide : (a b : Ranged) (c d : Bound) → IsRangeWithin a c → IsRangeWithin b d → is_small c ≡ true → is_small d ≡ true → is_small (quotient_bound c d) ≡ true → CanDivideRanges a b
can_divide a b c d h k sc sd e =
    let l = both (nat_le (quotient_bound c d).most (10 ^ 37 - 1)) (nat_le (quotient_bound c d).scale 37) e in
    let most = at_most (quotient_bound c d).most (10 ^ 37 - 1) l.0 in
    let ups : shift a b ≡ quotient_scale c.scale d.scale + d.scale - c.scale = rw (h.scale, k.scale) refl in
    let scales : quotient_scale a.scale b.scale ≡ quotient_scale c.scale d.scale = rw (h.scale, k.scale) refl in
    record {
      left = (small_range_of a c h sc).units;
      right = (small_range_of b d k sd).units;
      quotients = λ z m. small_quotient z m.0 m.1 m.2 m.3 m.4 m.5 most;
      scale = omega (arith, scales, at_most (quotient_bound c d).scale 37 l.1);
      digits = few_decimals a c (shift a b) h (rw ups most);
    }
  where
    small_quotient : (z x y : ℤ) → Holds a.units x → Holds b.units y → y ≢ pos 0 → z ≡ near Trunc (ratio_of x y) (pos (shift a b)) → (quotient_bound c d).most ≤ 10 ^ 37 - 1 → IsSmall z
    small_quotient z x y p q some f most =
        let v = decimal x a.scale in
        let w = decimal y b.scale in
        let r = factor_within true v w (decimal z (quotient_scale a.scale b.scale)) c d
        (in_within a c v h (record { held = p; scale = refl })) (in_within b d w k (record { held = q; scale = refl }))
        (quotient_there v w (not_zero y some) ∙ ap (λ u. Some (decimal u (quotient_scale a.scale b.scale))) (sym f)) in
        omega (arith, r.most, most)

pub can_scale_by : (over : Bool) (a b : Ranged) (c d : Bound) → IsRangeWithin a c → IsRangeWithin b d → is_small c ≡ true → is_small d ≡ true → is_small (factor_bound over c d) ≡ true → CanScaleRange over a b
can_scale_by false a b c d h k sc sd e = can_multiply a b c d h k sc sd e
can_scale_by true a b c d h k sc sd e = can_divide a b c d h k sc sd e

pub can_scale : (items : ℕ → Ranged) (bound : ℕ → Bound) (a by : Ranged) (over minus : Bool) (atom : Atom) (fs : Factors) → AreBounded items bound → HasRoom bound a (more_factors (MkFactor over minus atom) fs) → Some by ≡ atom_range items atom → CanScaleRange over a (turned minus by)
can_scale items bound a by over minus atom fs bounded h some =
    let next = factor_bound over h.most (atom_most bound atom) in
    let l = both (is_small_atom bound atom) (is_small next && is_small_product bound next fs) h.factors in
    let m = both (is_small next) (is_small_product bound next fs) l.1 in
    let w = turned_within minus by (atom_most bound atom) (atom_range_within items bound bounded.held atom by (sym some)) in
    can_scale_by over a (turned minus by) h.most (atom_most bound atom) h.within w h.small (small_atom_most bound atom l.0) m.0

pub can_add_part : (items : ℕ → Ranged) (bound : ℕ → Bound) (a b : Ranged) (p : Part) (ps : Parts) → AreBounded items bound → HasRoomInSum bound a (more_parts p ps) → Some b ≡ part_range items p → CanAddRanges a b
can_add_part items bound a b p ps bounded h some =
    let next = sum_bound h.most (part_most bound p) in
    let l = both (is_small_part bound p) (is_small next && is_small_sum_from bound next ps) h.parts in
    let m = both (is_small next) (is_small_sum_from bound next ps) l.1 in
    can_add a b h.most (part_most bound p) h.within (part_range_within items bound bounded.held p b (sym some)) m.0

-- ---- divisors that may be 0

pub small_factors_at_first : (bound : ℕ → Bound) (fs : Factors) → is_small_product bound (exactly 1) fs ≡ true → HasSmallFactors bound fs
small_factors_at_first bound fs e = record { most = exactly 1; factors = e }

pub first_operand_small : (bound : ℕ → Bound) (f : Factor) (fs : Factors) → HasSmallFactors bound (more_factors f fs) → is_small_atom bound (operand f) ≡ true
first_operand_small bound (MkFactor over minus atom) fs h =
    let next = factor_bound over h.most (atom_most bound atom) in
    (both (is_small_atom bound atom) (is_small next && is_small_product bound next fs) h.factors).0

pub more_small_factors : (bound : ℕ → Bound) (f : Factor) (fs : Factors) → HasSmallFactors bound (more_factors f fs) → HasSmallFactors bound fs
more_small_factors bound (MkFactor over minus atom) fs h =
    let next = factor_bound over h.most (atom_most bound atom) in
    let l = both (is_small_atom bound atom) (is_small next && is_small_product bound next fs) h.factors in
    record { most = next; factors = (both (is_small next) (is_small_product bound next fs) l.1).1 }

pub small_parts_at_first : (bound : ℕ → Bound) (ps : Parts) → is_small_sum_from bound (exactly 0) ps ≡ true → HasSmallParts bound ps
small_parts_at_first bound ps e = record { most = exactly 0; parts = e }

pub first_part_small : (bound : ℕ → Bound) (p : Part) (ps : Parts) → HasSmallParts bound (more_parts p ps) → is_small_part bound p ≡ true
first_part_small bound p ps h =
    let next = sum_bound h.most (part_most bound p) in
    (both (is_small_part bound p) (is_small next && is_small_sum_from bound next ps) h.parts).0

pub more_small_parts : (bound : ℕ → Bound) (p : Part) (ps : Parts) → HasSmallParts bound (more_parts p ps) → HasSmallParts bound ps
more_small_parts bound p ps h =
    let next = sum_bound h.most (part_most bound p) in
    let l = both (is_small_part bound p) (is_small next && is_small_sum_from bound next ps) h.parts in
    record { most = next; parts = (both (is_small next) (is_small_sum_from bound next ps) l.1).1 }

pub factor_found : (items : ℕ → Ranged) (f : Factor) (fs : Factors) → true ≡ may_vanish_in_factor items f → true ≡ may_vanish_in_product items (more_factors f fs)
factor_found items (MkFactor over minus atom) fs e = go (may_vanish_in_atom items atom) (over && holds_zero (atom_range items atom)) (may_vanish_in_product items fs) e
  where
    go : (a b c : Bool) → true ≡ (a || b) → true ≡ (a || (b || c))
    go true b c e = refl
    go false true c e = refl
    go false false c e = absurd cc

pub factor_passed : (items : ℕ → Ranged) (f : Factor) (fs : Factors) → false ≡ may_vanish_in_factor items f → may_vanish_in_product items fs ≡ may_vanish_in_product items (more_factors f fs)
factor_passed items (MkFactor over minus atom) fs e = go (may_vanish_in_atom items atom) (over && holds_zero (atom_range items atom)) (may_vanish_in_product items fs) e
  where
    go : (a b c : Bool) → false ≡ (a || b) → c ≡ (a || (b || c))
    go true b c e = absurd cc
    go false true c e = absurd cc
    go false false c e = refl

pub part_found : (items : ℕ → Ranged) (p : Part) (ps : Parts) → true ≡ may_vanish_in_part items p → true ≡ may_vanish_in_parts items (more_parts p ps)
part_found items p ps e = rw (← e) refl

pub part_passed : (items : ℕ → Ranged) (p : Part) (ps : Parts) → false ≡ may_vanish_in_part items p → may_vanish_in_parts items ps ≡ may_vanish_in_parts items (more_parts p ps)
part_passed items p ps e = rw (← e) refl
