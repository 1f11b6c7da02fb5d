-- What a sum is worth, one step of the work after the other.
use Rattle.std.proofs.Common.{◌≡◌, ℕ, ◌+◌, ◌-◌, ◌*◌, ◌^◌, ◌≤◌, ◌<◌, ◌&&◌, ◌==◌, ℤ, pos, inl, inr, Bool, true, false, Some, None, refl, sym, ap, subst, ◌∙◌, arith}
use Rattle.std.specs.Prelude.{unsigned_abs, nat_le, ◌≢◌}
use Rattle.std.proofs.lemmas.Int.{ints}
use Rattle.std.proofs.lemmas.Nat.{mul-le}
use Rattle.std.proofs.lemmas.Bool.{cases_lt}
use Rattle.std.proofs.Math.Nat.{le_refl}
use Rattle.dec_num.specs.declared.types.Mode.TheVariants.{Trunc}
use Rattle.dec_num.specs.Exact.{ratio_of, near}
use Rattle.dec_num.proofs.Powers.{ten_monotone}
use Rattle.dec_num.specs.declared.types.Scaled.{Scaled}
use Rattle.cob_program.specs.Sum.{Parts, more_parts, Part, Factors, no_factors, more_factors, Factor, MkFactor, Atom}
use Rattle.cob_program.specs.Values.{whole_number, negated, plus, product, quotient_scale, quotient, with_factor, ◌>>=◌, sum_from, part_value, product_from, atom_value}
use Rattle.cob_program.specs.Bounds.{Bound, exactly, sum_bound, product_bound, quotient_bound, factor_bound, is_small, part_most, atom_most, is_small_sum_from, is_small_part, is_small_product, is_small_atom, IsWithin, IsSmall}
use Rattle.cob_program.proofs.Steps.{some_bound, both, negated_within, whole_within, plus_within, factor_within, small_of}
use Rattle.cob_program.proofs.SmallSums.{bind_bind, at_most, one_is_small, none_is_small, small_atom_most}
use Rattle.cob_calc.proofs.Within.{part_within, atom_within}
use Rattle.cob_calc.specs.Contents.{Contents, IsWellFormed, amount_at, bound_at}
use Rattle.cob_calc.specs.Working.{CanDivide, CanScale, factor_value, HasRoom, HasRoomInSum}
use Rattle.cob_calc.proofs.NumberLemmas.{not_zero}
use Rattle.cob_calc.proofs.Bounded.{bounded}

-- ---- one factor after the other

pub factor_first : (worth : ℕ → Scaled) (a : Scaled) (f : Factor) (fs : Factors) → product_from worth a (more_factors f fs) ≡ (factor_value worth a f >>= λ b. product_from worth b fs)
factor_first worth a (MkFactor over minus atom) fs = bind_bind (atom_value worth atom) (λ b. with_factor over a (negated minus b)) (λ b. product_from worth b fs)

pub product_ends : (worth : ℕ → Scaled) (a : Scaled) (f : Factor) (fs : Factors) → None ≡ factor_value worth a f → None ≡ product_from worth a (more_factors f fs)
product_ends worth a f fs none = sym (factor_first worth a f fs ∙ ap (λ o. o >>= λ b. product_from worth b fs) (sym none))

pub product_goes_on : (worth : ℕ → Scaled) (a b : Scaled) (f : Factor) (fs : Factors) → Some b ≡ factor_value worth a f → product_from worth b fs ≡ product_from worth a (more_factors f fs)
product_goes_on worth a b f fs some = sym (factor_first worth a f fs ∙ ap (λ o. o >>= λ b. product_from worth b fs) (sym some))

pub sum_ends : (worth : ℕ → Scaled) (a : Scaled) (p : Part) (ps : Parts) → None ≡ part_value worth p → None ≡ sum_from worth a (more_parts p ps)
sum_ends worth a p ps none = ap (λ o. o >>= λ b. sum_from worth (plus a b) ps) none

pub sum_goes_on : (worth : ℕ → Scaled) (a b next : Scaled) (p : Part) (ps : Parts) → Some b ≡ part_value worth p → next ≡ plus a b → sum_from worth next ps ≡ sum_from worth a (more_parts p ps)
sum_goes_on worth a b next p ps some made = ap (λ x. sum_from worth x ps) made ∙ ap (λ o. o >>= λ b. sum_from worth (plus a b) ps) some

-- ---- what is left has room

pub room_at_first : (c : Contents) (a : Scaled) (fs : Factors) → a ≡ whole_number (pos 1) → is_small_product (bound_at c.layout) (exactly 1) fs ≡ true → HasRoom c a fs
room_at_first c a fs is e = record { most = exactly 1; within = subst (λ x. IsWithin x (exactly 1)) (sym is) (whole_within 1); small = one_is_small; factors = e }

pub room_for_one : (c : Contents) (a : Scaled) (f : Factor) (fs : Factors) → HasRoom c a (more_factors f fs) → HasRoom c a (more_factors f no_factors)
room_for_one c a (MkFactor over minus atom) fs h =
    let next = factor_bound over h.most (atom_most (bound_at c.layout) atom) in
    let l = both (is_small_atom (bound_at c.layout) atom) (is_small next && is_small_product (bound_at c.layout) next fs) h.factors in
    let m = both (is_small next) (is_small_product (bound_at c.layout) next fs) l.1 in
    record { most = h.most; within = h.within; small = h.small; factors = rw (l.0, m.0) refl }

-- the factor is small, and with it the number
pub atom_has_room : (c : Contents) (a : Scaled) (over minus : Bool) (atom : Atom) (fs : Factors) → HasRoom c a (more_factors (MkFactor over minus atom) fs) → is_small_atom (bound_at c.layout) atom ≡ true
atom_has_room c a over minus atom fs h =
    let next = factor_bound over h.most (atom_most (bound_at c.layout) atom) in
    (both (is_small_atom (bound_at c.layout) atom) (is_small next && is_small_product (bound_at c.layout) next fs) h.factors).0

pub next_has_room : (c : Contents) (a b : Scaled) (f : Factor) (fs : Factors) → IsWellFormed c → HasRoom c a (more_factors f fs) → Some b ≡ factor_value (amount_at c) a f → HasRoom c b fs
next_has_room c a b (MkFactor over minus atom) fs sound h some =
    let bound = bound_at c.layout in
    let next = factor_bound over h.most (atom_most bound atom) in
    let l = both (is_small_atom bound atom) (is_small next && is_small_product bound next fs) h.factors in
    let m = both (is_small next) (is_small_product bound next fs) l.1 in
    let by = some_bound (atom_value (amount_at c) atom) (λ x. with_factor over a (negated minus x)) b (sym some) in
    let w = negated_within minus by.0 (atom_most bound atom) (atom_within (amount_at c) bound (bounded c sound) atom by.0 by.1) in
    record {
      most = next;
      within = factor_within over a (negated minus by.0) b h.most (atom_most bound atom) h.within w by.2;
      small = m.0;
      factors = m.1;
    }

pub room_is_small : (c : Contents) (a : Scaled) (fs : Factors) → HasRoom c a fs → IsSmall a
room_is_small c a fs h = small_of a h.most h.within h.small

pub sum_room_at_first : (c : Contents) (a : Scaled) (ps : Parts) → a ≡ whole_number (pos 0) → is_small_sum_from (bound_at c.layout) (exactly 0) ps ≡ true → HasRoomInSum c a ps
sum_room_at_first c a ps is e = record { most = exactly 0; within = subst (λ x. IsWithin x (exactly 0)) (sym is) (whole_within 0); small = none_is_small; parts = e }

pub sum_room_is_small : (c : Contents) (a : Scaled) (ps : Parts) → HasRoomInSum c a ps → IsSmall a
sum_room_is_small c a ps h = small_of a h.most h.within h.small

pub part_has_room : (c : Contents) (a : Scaled) (p : Part) (ps : Parts) → HasRoomInSum c a (more_parts p ps) → is_small_part (bound_at c.layout) p ≡ true
part_has_room c a p ps h =
    let next = sum_bound h.most (part_most (bound_at c.layout) p) in
    (both (is_small_part (bound_at c.layout) p) (is_small next && is_small_sum_from (bound_at c.layout) next ps) h.parts).0

pub next_has_room_in_sum : (c : Contents) (a b : Scaled) (p : Part) (ps : Parts) → IsWellFormed c → HasRoomInSum c a (more_parts p ps) → Some b ≡ part_value (amount_at c) p → HasRoomInSum c (plus a b) ps
next_has_room_in_sum c a b p ps sound h some =
    let bound = bound_at c.layout in
    let next = sum_bound h.most (part_most bound p) in
    let l = both (is_small_part bound p) (is_small next && is_small_sum_from bound next ps) h.parts in
    let m = both (is_small next) (is_small_sum_from bound next ps) l.1 in
    record {
      most = next;
      within = plus_within a b h.most (part_most bound p) h.within (part_within (amount_at c) bound (bounded c sound) p b (sym some));
      small = m.0;
      parts = m.1;
    }

-- ---- small results

pub amount_small : (c : Contents) (place : ℕ) (v : Scaled) → IsWellFormed c → is_small (bound_at c.layout place) ≡ true → v ≡ amount_at c place → IsSmall v
amount_small c place v sound e is = subst IsSmall (sym is) (small_of (amount_at c place) (bound_at c.layout place) (bounded c sound place) e)

-- ---- a factor can be worked out

-- a number that isn't 0 has a bound that isn't
shifted_least : (m k : ℕ) → 0 < m → m * 10 ^ k ≤ 10 ^ 37 - 1 → k ≤ 36
shifted_least m k some h = elim (cases_lt 36 k) as (λ _. k ≤ 36) [
  | inl long ↦ absurd (omega (arith, ten_monotone 37 k long, mul-le 1 (10 ^ k) m (10 ^ k) some (le_refl (10 ^ k)), h))
  | inr short ↦ short
]

size_is_none : (z : ℤ) (m : ℕ) → unsigned_abs z ≤ m → m ≡ 0 → z ≡ pos 0
size_is_none z m h e = omega (arith, ints)

few_decimals : (v : Scaled) (a : Bound) (k : ℕ) → IsWithin v a → nat_le (a.most * 10 ^ k) (10 ^ 37 - 1) ≡ true → v.units ≢ pos 0 → k ≤ 55
few_decimals v a k h e some = elim (cases_lt 0 a.most) as (λ _. k ≤ 55) [
  | inl more ↦ omega (arith, shifted_least a.most k more (at_most (a.most * 10 ^ k) (10 ^ 37 - 1) e))
  | inr none ↦ absurd (some (size_is_none v.units a.most h.most (omega (arith, none))))
]

same_quotient : (v w : Scaled) → w.units ≢ pos 0 → (b : Bool) → (unsigned_abs w.units == 0) ≡ b → quotient v w ≡ Some (record {
  units = near Trunc (ratio_of v.units w.units) (pos (quotient_scale v.scale w.scale + w.scale - v.scale));
  scale = quotient_scale v.scale w.scale;
})
same_quotient v w h b e = rw (not_zero w.units h) refl

pub can_divide : (v w : Scaled) (a b : Bound) → IsWithin v a → IsWithin w b → is_small a ≡ true → is_small b ≡ true → is_small (quotient_bound a b) ≡ true → CanDivide v w
can_divide v w a b h k sa sb sq =
    let l = both (nat_le (quotient_bound a b).most (10 ^ 37 - 1)) (nat_le (quotient_bound a b).scale 37) sq in
    record {
      left = small_of v a h sa;
      right = small_of w b k sb;
      result = λ some.
          (small_of _ (quotient_bound a b) (factor_within true v w _ a b h k (same_quotient v w some (unsigned_abs w.units == 0) refl)) sq).most;
      digits = λ some. few_decimals v a (quotient_scale v.scale w.scale + w.scale - v.scale) h (rw (h.scale, k.scale) l.0) some;
    }

can_scale_by : (over : Bool) (v w : Scaled) (a b : Bound) → IsWithin v a → IsWithin w b → is_small a ≡ true → is_small b ≡ true → is_small (factor_bound over a b) ≡ true → CanScale over v w
can_scale_by false v w a b h k sa sb s = small_of (product v w) (product_bound a b) (factor_within false v w (product v w) a b h k refl) s
can_scale_by true v w a b h k sa sb s = can_divide v w a b h k sa sb s

pub can_scale : (c : Contents) (a by : Scaled) (over minus : Bool) (atom : Atom) (fs : Factors) → IsWellFormed c → HasRoom c a (more_factors (MkFactor over minus atom) fs) → Some by ≡ atom_value (amount_at c) atom → CanScale over a (negated minus by)
can_scale c a by over minus atom fs sound h some =
    let bound = bound_at c.layout in
    let next = factor_bound over h.most (atom_most bound atom) in
    let l = both (is_small_atom bound atom) (is_small next && is_small_product bound next fs) h.factors in
    let m = both (is_small next) (is_small_product bound next fs) l.1 in
    let w = negated_within minus by (atom_most bound atom) (atom_within (amount_at c) bound (bounded c sound) atom by (sym some)) in
    can_scale_by over a (negated minus by) h.most (atom_most bound atom) h.within w h.small (small_atom_most bound atom l.0) m.0
