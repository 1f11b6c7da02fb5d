-- Ends that are capped beyond a receiver's digits change nothing for it.
use Rattle.std.proofs.Common.{◌≡◌, ℕ, ◌-◌, ◌^◌, ◌<◌, ◌≤◌, ◌||◌, false, ℤ, pos, negsuc, neg_ℤ, ◌≤ℤ◌, Option, Some, None, refl, sym, ap, ◌∙◌, subst, arith}
use Rattle.std.specs.Prelude.{◌≡◌, ◌↔◌, int_lt, unsigned_abs, IfSome}
use Rattle.std.specs.Option.{option_map_or}
use Rattle.std.proofs.lemmas.Int.{ints, clamps}
use Rattle.dec_num.specs.declared.types.Mode.{Mode}
use Rattle.dec_num.specs.declared.types.Scaled.{Scaled}
use Rattle.dec_num.specs.Exact.{near, with_sign_of, near_size}
use Rattle.dec_num.specs.Scaled.{value_of}
use Rattle.interval_domain.specs.declared.bounds.Interval.{Interval}
use Rattle.interval_domain.specs.Results.{IsQuotient, IsLeastCapped}
use Rattle.cob_program.specs.Values.{◌>>=◌}
use Rattle.sum_ranges.specs.declared.ranged.Ranged.{Ranged}
use Rattle.sum_ranges.specs.Sizes.{IsSmallRange}
use Rattle.sum_ranges.proofs.Working.{one_least}
use Rattle.transfer_ranges.specs.declared.amounts.Receiver.{Receiver}
use Rattle.transfer_ranges.specs.Results.{IsLeastIfAny, IsHeld, IsKept}
use Rattle.transfer_ranges.specs.ResultRanges.{quotient_units, most, fitted, exceeds}
use Rattle.transfer_ranges.specs.Sizes.{capped_at, IsCapped, IsCappedIfAny, IsSameFor}
use Rattle.transfer_ranges.proofs.Keeping.{least_same, kept_least, some_room}
use Rattle.transfer_ranges.proofs.Rounding.{up_of, quotients_least}

-- ---- one least interval

pub interval_same : (i j : Interval) → i.low ≡ j.low → i.high ≡ j.high → i ≡ j
interval_same i j e f =
    let join : ℤ → ℤ → Interval = λ low high. record { low = low; high = high } in
    ap (λ low. join low i.high) e ∙ ap (join j.low) f

pub one_least_if_any : (R : ℤ → Type 0) (o p : Option Interval) → IsLeastIfAny R o → IsLeastIfAny R p → o ≡ p
one_least_if_any R None None h k = refl
one_least_if_any R None (Some j) h k = absurd (h j.low k.low_is_one)
one_least_if_any R (Some i) None h k = absurd (k i.low h.low_is_one)
one_least_if_any R (Some i) (Some j) h k = ap Some (one_least R i j h k)

-- ---- of a decimal's end

near_sign : (mode : Mode) (v : Scaled) (scale : ℕ) (limit : ℕ) (z : ℤ) → z ≡ near mode (value_of v) (pos scale) → limit ≤ unsigned_abs z → v.units ≤ℤ negsuc 0 → neg_ℤ (pos limit) ≡ capped_at limit z
near_sign mode v scale limit z e h below = go v.units (near_size mode (value_of v) (pos scale)) below e
  where
    go : (units : ℤ) (size : ℕ) → units ≤ℤ negsuc 0 → z ≡ with_sign_of units size → neg_ℤ (pos limit) ≡ capped_at limit z
    go (pos n) size k f = absurd (omega (arith, ints, k))
    go (negsuc n) size k f = omega (arith, ints, clamps, f, h)

near_positive : (mode : Mode) (v : Scaled) (scale : ℕ) (limit : ℕ) (z : ℤ) → z ≡ near mode (value_of v) (pos scale) → limit ≤ unsigned_abs z → pos 0 ≤ℤ v.units → pos limit ≡ capped_at limit z
near_positive mode v scale limit z e h above = go v.units (near_size mode (value_of v) (pos scale)) above e
  where
    go : (units : ℤ) (size : ℕ) → pos 0 ≤ℤ units → z ≡ with_sign_of units size → pos limit ≡ capped_at limit z
    go (pos n) size k f = omega (arith, ints, clamps, f, h)
    go (negsuc n) size k f = absurd (omega (arith, ints, k))

pub low_end : (mode : Mode) (v : Scaled) (scale digits : ℕ) → 10 ^ digits ≤ unsigned_abs (near mode (value_of v) (pos scale)) → v.units ≤ℤ negsuc 0 → neg_ℤ (pos (10 ^ digits)) ≡ capped_at (10 ^ digits) (near mode (value_of v) (pos scale))
low_end mode v scale digits h k = near_sign mode v scale (10 ^ digits) (near mode (value_of v) (pos scale)) refl h k

pub high_end : (mode : Mode) (v : Scaled) (scale digits : ℕ) → 10 ^ digits ≤ unsigned_abs (near mode (value_of v) (pos scale)) → pos 0 ≤ℤ v.units → pos (10 ^ digits) ≡ capped_at (10 ^ digits) (near mode (value_of v) (pos scale))
high_end mode v scale digits h k = near_positive mode v scale (10 ^ digits) (near mode (value_of v) (pos scale)) refl h k

pub held_end : (mode : Mode) (v : Scaled) (scale digits : ℕ) (z : ℤ) → z ≡ near mode (value_of v) (pos scale) → unsigned_abs z < 10 ^ digits → z ≡ capped_at (10 ^ digits) (near mode (value_of v) (pos scale))
held_end mode v scale digits z e h = subst (λ t. z ≡ capped_at (10 ^ digits) t) e (within_limit (10 ^ digits) z h)
  where
    within_limit : (limit : ℕ) (z : ℤ) → unsigned_abs z < limit → z ≡ capped_at limit z
    within_limit limit z h = omega (arith, ints, clamps, h)

pub ruleset ends = (low_end, high_end, held_end)

-- ---- quotients

none_found : (mode : Mode) (up : ℤ) (n d : Interval) → d.low ≡ pos 0 → d.high ≡ pos 0 → (z : ℤ) → IsQuotient n d up mode z → ⊥
none_found mode up n d low high z (x, y, h, k, some, e) = some (omega (arith, ints, low, high, k.0, k.1))

capped_of_least : (R : ℤ → Type 0) (exact o : Option Interval) → IsLeastIfAny R exact → (o ≡ None → (z : ℤ) → R z → ⊥) → IfSome o (λ i. IsLeastCapped R i) → IsCappedIfAny (10 ^ 37) exact o
capped_of_least R None None h none k = tt
capped_of_least R None (Some i) h none (exact, least, low, high) = h exact.low least.low_is_one
capped_of_least R (Some j) None h none k = none refl j.low h.low_is_one
capped_of_least R (Some j) (Some i) h none (exact, least, low, high) =
    let same = one_least R exact j least h in
    record { low = low ∙ ap (λ e. capped_at (10 ^ 37) e.low) same; high = high ∙ ap (λ e. capped_at (10 ^ 37) e.high) same }

pub quotients_capped : (mode : Mode) (scale : ℕ) (top under : Ranged) (up : ℤ) (o : Option Interval) → IsSmallRange top → IsSmallRange under → (o ≡ None) ↔ ((under.units.low ≡ pos 0) × (under.units.high ≡ pos 0)) →
    IfSome o (λ i. IsLeastCapped (IsQuotient top.units under.units up mode) i) → up ≡ up_of scale top under → IsCappedIfAny (10 ^ 37) (quotient_units mode scale top under) o
quotients_capped mode scale top under up o n d none least e =
    capped_of_least (IsQuotient top.units under.units (up_of scale top under) mode) (quotient_units mode scale top under) o
    (quotients_least mode (up_of scale top under) top.units under.units n.units.ordered d.units.ordered)
    (λ missing. none_found mode (up_of scale top under) top.units under.units (none.0 missing).0 (none.0 missing).1)
    (subst (λ u. IfSome o (λ i. IsLeastCapped (IsQuotient top.units under.units u mode) i)) e least)

-- ---- what a receiver makes of capped ends

capped_low : (limit room : ℕ) (exact z : ℤ) → room ≤ limit → unsigned_abs z < room → exact ≤ℤ z → capped_at limit exact ≤ℤ z
capped_low limit room exact z h k l = omega (arith, ints, clamps, h, k, l)

low_capped : (limit room : ℕ) (exact z : ℤ) → room ≤ limit → unsigned_abs z < room → capped_at limit exact ≤ℤ z → exact ≤ℤ z
low_capped limit room exact z h k l = omega (arith, ints, clamps, h, k, l)

capped_high : (limit room : ℕ) (exact z : ℤ) → room ≤ limit → unsigned_abs z < room → z ≤ℤ exact → z ≤ℤ capped_at limit exact
capped_high limit room exact z h k l = omega (arith, ints, clamps, h, k, l)

high_capped : (limit room : ℕ) (exact z : ℤ) → room ≤ limit → unsigned_abs z < room → z ≤ℤ capped_at limit exact → z ≤ℤ exact
high_capped limit room exact z h k l = omega (arith, ints, clamps, h, k, l)

module _ (digits limit : ℕ) (exact i : Interval) (room : 10 ^ digits ≤ limit) (capped : IsCapped limit exact i) where
  to_capped : (z : ℤ) → IsHeld digits exact z → IsHeld digits i z
  to_capped z (h, k) =
      ((subst (λ t. t ≤ℤ z) (sym capped.low) (capped_low limit (10 ^ digits) exact.low z room k h.0), subst (λ t. z ≤ℤ t) (sym capped.high) (capped_high limit (10 ^ digits) exact.high z room k h.1)), k)

  from_capped : (z : ℤ) → IsHeld digits i z → IsHeld digits exact z
  from_capped z (h, k) =
      ((low_capped limit (10 ^ digits) exact.low z room k (subst (λ t. t ≤ℤ z) capped.low h.0), high_capped limit (10 ^ digits) exact.high z room k (subst (λ t. z ≤ℤ t) capped.high h.1)), k)

lower_capped : (limit room : ℕ) (exact : ℤ) → 1 ≤ room → room ≤ limit → int_lt exact (neg_ℤ (pos (room - 1))) ≡ int_lt (capped_at limit exact) (neg_ℤ (pos (room - 1)))
lower_capped limit room exact some h = grind (arith, ints, clamps)

higher_capped : (limit room : ℕ) (exact : ℤ) → 1 ≤ room → room ≤ limit → int_lt (pos (room - 1)) exact ≡ int_lt (pos (room - 1)) (capped_at limit exact)
higher_capped limit room exact some h = grind (arith, ints, clamps)

pub same_fitted : (r : Receiver) (limit : ℕ) (exact i : Interval) → 10 ^ r.digits ≤ limit → IsCapped limit exact i → fitted r i ≡ fitted r exact
same_fitted r limit exact i room capped =
    one_least_if_any (IsKept r exact) (fitted r i) (fitted r exact)
    (least_same (IsKept r i) (IsKept r exact) (fitted r i)
    (λ z (w, h, e). (w, from_capped r.digits limit exact i room capped w h, e))
    (λ z (w, h, e). (w, to_capped r.digits limit exact i room capped w h, e))
    (kept_least r i))
    (kept_least r exact)

pub same_exceeds : (digits limit : ℕ) (exact i : Interval) → 10 ^ digits ≤ limit → IsCapped limit exact i → exceeds digits i ≡ exceeds digits exact
same_exceeds digits limit exact i room capped =
    let low : int_lt exact.low (neg_ℤ (most digits)) ≡ int_lt i.low (neg_ℤ (most digits)) = lower_capped limit (10 ^ digits) exact.low (some_room digits) room ∙ ap (λ t. int_lt t (neg_ℤ (most digits))) (sym capped.low) in
    let high : int_lt (most digits) exact.high ≡ int_lt (most digits) i.high = higher_capped limit (10 ^ digits) exact.high (some_room digits) room ∙ ap (λ t. int_lt (most digits) t) (sym capped.high) in
    ap (λ p. p || int_lt (most digits) i.high) (sym low) ∙ ap (λ q. int_lt exact.low (neg_ℤ (most digits)) || q) (sym high)

-- ---- stores

pub none_stored : (r : Receiver) (exact : Option Interval) → IsSameFor r.digits exact None → None ≡ (exact >>= fitted r)
none_stored r None same = refl
none_stored r (Some i) same = absurd same.2

pub none_fails : (digits : ℕ) (exact : Option Interval) → IsSameFor digits exact None → false ≡ option_map_or (exceeds digits) exact false
none_fails digits None same = refl
none_fails digits (Some i) same = absurd same.2

pub some_stored : (r : Receiver) (exact : Option Interval) (i : Interval) → IsSameFor r.digits exact (Some i) → fitted r i ≡ (exact >>= fitted r)
some_stored r None i same = absurd same.2
some_stored r (Some exact) i (limit, room, capped) = same_fitted r limit exact i room capped

pub some_fails : (digits : ℕ) (exact : Option Interval) (i : Interval) → IsSameFor digits exact (Some i) → exceeds digits i ≡ option_map_or (exceeds digits) exact false
some_fails digits None i same = absurd same.2
some_fails digits (Some exact) i (limit, room, capped) = same_exceeds digits limit exact i room capped

pub ruleset stores = (none_stored, none_fails, some_stored, some_fails)
