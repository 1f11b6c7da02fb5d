-- Ends of intervals, widened by thresholds.
use Rattle.std.proofs.Common.{◌≡◌, ℕ, zero, suc, ◌-◌, ◌<◌, ◌≤◌, List, [], ◌∷◌, length, get_or, ℤ, pos, ◌≤ℤ◌, ◌<ℤ◌, int_lt, int_le, cond, ◌⊎◌, inl, inr, refl, sym, ap, subst, ◌∙◌, arith}
use Rattle.std.specs.Int.{int_max, int_min}
use Rattle.std.proofs.lemmas.Int.{ints, clamps, by_lt_z}
use Rattle.interval_domain.specs.declared.bounds.Interval.{Interval}
use Rattle.interval_domain.specs.Corners.{interval}
use Rattle.interval_domain.specs.Thresholds.{IsListed, IsNearestBelow, IsNearestAbove}
use Rattle.interval_domain.specs.Known.{first_of, last_of, greatest_below, least_above, nearest_below, nearest_above, widened_low, widened_high, count_below, count_above}

-- ---- the greatest threshold at or below a number
greatest_of_two : (t z g : ℤ) → (cond (int_le t z) (int_max t g) g ≡ g) ⊎ ((cond (int_le t z) (int_max t g) g ≡ t) × (t ≤ℤ z))
greatest_of_two t z g = by_lt_z z t
    (λ (lt : z <ℤ t). inl (grind (arith, ints)))
    (λ (le : t ≤ℤ z). by_lt_z g t
    (λ (lt : g <ℤ t). inr (grind (arith, ints, clamps), le))
    (λ (ge : t ≤ℤ g). inl (grind (arith, ints, clamps))))

below_number : (least : ℤ) (ts : List ℤ) (z : ℤ) → least ≤ℤ z → greatest_below least ts z ≤ℤ z
below_number least [] z h = h
below_number least (t ∷ ts) z h =
    let rest : greatest_below least ts z ≤ℤ z = below_number least ts z h in
    elim (greatest_of_two t z (greatest_below least ts z)) as (λ _. greatest_below least (t ∷ ts) z ≤ℤ z) [
      | inl e ↦ subst (λ (x : ℤ). x ≤ℤ z) (sym e) rest
      | inr (e, le) ↦ subst (λ (x : ℤ). x ≤ℤ z) (sym e) le
    ]

above_rest : (least : ℤ) (t : ℤ) (ts : List ℤ) (z : ℤ) → greatest_below least ts z ≤ℤ greatest_below least (t ∷ ts) z
above_rest least t ts z = by_lt_z z t
    (λ (lt : z <ℤ t). grind (arith, ints))
    (λ (le : t ≤ℤ z). grind (arith, ints, clamps))

above_head : (least : ℤ) (t : ℤ) (ts : List ℤ) (z : ℤ) → t ≤ℤ z → t ≤ℤ greatest_below least (t ∷ ts) z
above_head least t ts z h = grind (arith, ints, clamps)

above_listed : (least : ℤ) (ts : List ℤ) (z u : ℤ) (k : ℕ) → k < length ts → get_or ts k (pos 0) ≡ u → u ≤ℤ z → u ≤ℤ greatest_below least ts z
above_listed least [] z u k h e le = absurd (omega arith)
above_listed least (t ∷ ts) z u zero h e le = let f : t ≡ u = e in subst (λ (x : ℤ). x ≤ℤ greatest_below least (t ∷ ts) z) f (above_head least t ts z (omega (arith, ints)))
above_listed least (t ∷ ts) z u (suc k) h e le =
    let rest : u ≤ℤ greatest_below least ts z = above_listed least ts z u k (omega arith) e le in
    let more : greatest_below least ts z ≤ℤ greatest_below least (t ∷ ts) z = above_rest least t ts z in omega (arith, ints, rest, more)

listed_more : (t : ℤ) (ts : List ℤ) (u : ℤ) → IsListed ts u → IsListed (t ∷ ts) u
listed_more t ts u (k, h, e) = (suc k, omega arith, e)

listed_or_least : (least : ℤ) (ts : List ℤ) (z : ℤ) → (greatest_below least ts z ≡ least) ⊎ IsListed ts (greatest_below least ts z)
listed_or_least least [] z = inl refl
listed_or_least least (t ∷ ts) z =
    elim (greatest_of_two t z (greatest_below least ts z)) as (λ _. (greatest_below least (t ∷ ts) z ≡ least) ⊎ IsListed (t ∷ ts) (greatest_below least (t ∷ ts) z)) [
      | inl e ↦ elim (listed_or_least least ts z) as (λ _. (greatest_below least (t ∷ ts) z ≡ least) ⊎ IsListed (t ∷ ts) (greatest_below least (t ∷ ts) z)) [
        | inl f ↦ inl (e ∙ f)
        | inr l ↦ inr (subst (λ (x : ℤ). IsListed (t ∷ ts) x) (sym e) (listed_more t ts (greatest_below least ts z) l))
      ]
      | inr (e, le) ↦ inr (0, omega arith, sym e)
    ]

first_listed : (ts : List ℤ) → 0 < length ts → IsListed ts (first_of ts)
first_listed ts h = (0, h, refl)

pub nearest_below_is_nearest : (ts : List ℤ) (z : ℤ) → 0 < length ts → first_of ts ≤ℤ z → IsNearestBelow ts z (nearest_below ts z)
nearest_below_is_nearest ts z some h = record {
  listed = elim (listed_or_least (first_of ts) ts z) as (λ _. IsListed ts (nearest_below ts z)) [
    | inl e ↦ subst (λ (x : ℤ). IsListed ts x) (sym e) (first_listed ts some)
    | inr l ↦ l
  ];
  below = below_number (first_of ts) ts z h;
  nearest = λ u (k, l, e) le. above_listed (first_of ts) ts z u k l e le;
}

pub one_nearest_below : (ts : List ℤ) (z t u : ℤ) → IsNearestBelow ts z t → IsNearestBelow ts z u → t ≡ u
one_nearest_below ts z t u h k = let low = k.nearest t h.listed h.below in let high = h.nearest u k.listed k.below in omega (arith, ints, low, high)

-- ---- the least threshold at or above a number
least_of_two : (t z g : ℤ) → (cond (int_le z t) (int_min t g) g ≡ g) ⊎ ((cond (int_le z t) (int_min t g) g ≡ t) × (z ≤ℤ t))
least_of_two t z g = by_lt_z t z
    (λ (lt : t <ℤ z). inl (grind (arith, ints)))
    (λ (le : z ≤ℤ t). by_lt_z t g
    (λ (lt : t <ℤ g). inr (grind (arith, ints, clamps), le))
    (λ (ge : g ≤ℤ t). inl (grind (arith, ints, clamps))))

above_number : (greatest : ℤ) (ts : List ℤ) (z : ℤ) → z ≤ℤ greatest → z ≤ℤ least_above greatest ts z
above_number greatest [] z h = h
above_number greatest (t ∷ ts) z h =
    let rest : z ≤ℤ least_above greatest ts z = above_number greatest ts z h in
    elim (least_of_two t z (least_above greatest ts z)) as (λ _. z ≤ℤ least_above greatest (t ∷ ts) z) [
      | inl e ↦ subst (λ (x : ℤ). z ≤ℤ x) (sym e) rest
      | inr (e, le) ↦ subst (λ (x : ℤ). z ≤ℤ x) (sym e) le
    ]

below_rest : (greatest : ℤ) (t : ℤ) (ts : List ℤ) (z : ℤ) → least_above greatest (t ∷ ts) z ≤ℤ least_above greatest ts z
below_rest greatest t ts z = by_lt_z t z
    (λ (lt : t <ℤ z). grind (arith, ints))
    (λ (le : z ≤ℤ t). grind (arith, ints, clamps))

below_head : (greatest : ℤ) (t : ℤ) (ts : List ℤ) (z : ℤ) → z ≤ℤ t → least_above greatest (t ∷ ts) z ≤ℤ t
below_head greatest t ts z h = grind (arith, ints, clamps)

below_listed : (greatest : ℤ) (ts : List ℤ) (z u : ℤ) (k : ℕ) → k < length ts → get_or ts k (pos 0) ≡ u → z ≤ℤ u → least_above greatest ts z ≤ℤ u
below_listed greatest [] z u k h e le = absurd (omega arith)
below_listed greatest (t ∷ ts) z u zero h e le = let f : t ≡ u = e in subst (λ (x : ℤ). least_above greatest (t ∷ ts) z ≤ℤ x) f (below_head greatest t ts z (omega (arith, ints)))
below_listed greatest (t ∷ ts) z u (suc k) h e le =
    let rest : least_above greatest ts z ≤ℤ u = below_listed greatest ts z u k (omega arith) e le in
    let more : least_above greatest (t ∷ ts) z ≤ℤ least_above greatest ts z = below_rest greatest t ts z in omega (arith, ints, rest, more)

listed_or_greatest : (greatest : ℤ) (ts : List ℤ) (z : ℤ) → (least_above greatest ts z ≡ greatest) ⊎ IsListed ts (least_above greatest ts z)
listed_or_greatest greatest [] z = inl refl
listed_or_greatest greatest (t ∷ ts) z =
    elim (least_of_two t z (least_above greatest ts z)) as (λ _. (least_above greatest (t ∷ ts) z ≡ greatest) ⊎ IsListed (t ∷ ts) (least_above greatest (t ∷ ts) z)) [
      | inl e ↦ elim (listed_or_greatest greatest ts z) as (λ _. (least_above greatest (t ∷ ts) z ≡ greatest) ⊎ IsListed (t ∷ ts) (least_above greatest (t ∷ ts) z)) [
        | inl f ↦ inl (e ∙ f)
        | inr l ↦ inr (subst (λ (x : ℤ). IsListed (t ∷ ts) x) (sym e) (listed_more t ts (least_above greatest ts z) l))
      ]
      | inr (e, le) ↦ inr (0, omega arith, sym e)
    ]

last_listed : (ts : List ℤ) → 0 < length ts → IsListed ts (last_of ts)
last_listed ts h = (length ts - 1, omega arith, refl)

pub nearest_above_is_nearest : (ts : List ℤ) (z : ℤ) → 0 < length ts → z ≤ℤ last_of ts → IsNearestAbove ts z (nearest_above ts z)
nearest_above_is_nearest ts z some h = record {
  listed = elim (listed_or_greatest (last_of ts) ts z) as (λ _. IsListed ts (nearest_above ts z)) [
    | inl e ↦ subst (λ (x : ℤ). IsListed ts x) (sym e) (last_listed ts some)
    | inr l ↦ l
  ];
  above = above_number (last_of ts) ts z h;
  nearest = λ u (k, l, e) le. below_listed (last_of ts) ts z u k l e le;
}

pub one_nearest_above : (ts : List ℤ) (z t u : ℤ) → IsNearestAbove ts z t → IsNearestAbove ts z u → t ≡ u
one_nearest_above ts z t u h k = let low = h.nearest u k.listed k.above in let high = k.nearest t h.listed h.above in omega (arith, ints, low, high)

-- ---- ends
pub low_kept : (ts : List ℤ) (old new : ℤ) → old ≤ℤ new → widened_low ts old new ≡ old
low_kept ts old new h = grind (arith, ints)

pub low_moved : (ts : List ℤ) (old new : ℤ) → new <ℤ old → widened_low ts old new ≡ nearest_below ts new
low_moved ts old new h = grind (arith, ints)

pub high_kept : (ts : List ℤ) (old new : ℤ) → new ≤ℤ old → widened_high ts old new ≡ old
high_kept ts old new h = grind (arith, ints)

pub high_moved : (ts : List ℤ) (old new : ℤ) → old <ℤ new → widened_high ts old new ≡ nearest_above ts new
high_moved ts old new h = grind (arith, ints)

pub low_not_above : (ts : List ℤ) (old new : ℤ) → first_of ts ≤ℤ new → (widened_low ts old new ≤ℤ old) × (widened_low ts old new ≤ℤ new)
low_not_above ts old new h = by_lt_z new old
    (λ (lt : new <ℤ old). let e = low_moved ts old new lt in let l = below_number (first_of ts) ts new h in (omega (arith, ints, e, l), omega (arith, ints, e, l)))
    (λ (le : old ≤ℤ new). let e = low_kept ts old new le in (omega (arith, ints, e), omega (arith, ints, e)))

pub high_not_below : (ts : List ℤ) (old new : ℤ) → new ≤ℤ last_of ts → (old ≤ℤ widened_high ts old new) × (new ≤ℤ widened_high ts old new)
high_not_below ts old new h = by_lt_z old new
    (λ (lt : old <ℤ new). let e = high_moved ts old new lt in let l = above_number (last_of ts) ts new h in (omega (arith, ints, e, l), omega (arith, ints, e, l)))
    (λ (le : new ≤ℤ old). let e = high_kept ts old new le in (omega (arith, ints, e), omega (arith, ints, e)))

pub low_from_first : (ts : List ℤ) (old new : ℤ) → 0 < length ts → first_of ts ≤ℤ old → first_of ts ≤ℤ new → first_of ts ≤ℤ widened_low ts old new
low_from_first ts old new some h k = by_lt_z new old
    (λ (lt : new <ℤ old). let e = low_moved ts old new lt in let l = above_listed (first_of ts) ts new (first_of ts) 0 some refl k in omega (arith, ints, e, l))
    (λ (le : old ≤ℤ new). let e = low_kept ts old new le in omega (arith, ints, e))

pub high_to_last : (ts : List ℤ) (old new : ℤ) → 0 < length ts → old ≤ℤ last_of ts → new ≤ℤ last_of ts → widened_high ts old new ≤ℤ last_of ts
high_to_last ts old new some h k = by_lt_z old new
    (λ (lt : old <ℤ new). let e = high_moved ts old new lt in let l = below_listed (last_of ts) ts new (last_of ts) (length ts - 1) (omega arith) refl k in omega (arith, ints, e, l))
    (λ (le : new ≤ℤ old). let e = high_kept ts old new le in omega (arith, ints, e))

-- ---- thresholds beyond an end
one_below : (t x y : ℤ) → x ≤ℤ y → cond (int_lt t x) 1 0 ≤ cond (int_lt t y) 1 0
one_below t x y h = grind (arith, ints)

one_above : (t x y : ℤ) → y ≤ℤ x → cond (int_lt x t) 1 0 ≤ cond (int_lt y t) 1 0
one_above t x y h = grind (arith, ints)

one_at_most : (b : ℤ) (c : ℤ) → cond (int_lt b c) 1 0 ≤ 1
one_at_most b c = grind (arith, ints)

pub count_below_rises : (ts : List ℤ) (x y : ℤ) → x ≤ℤ y → count_below ts x ≤ count_below ts y
count_below_rises [] x y h = omega arith
count_below_rises (t ∷ ts) x y h = let one = one_below t x y h in let rest = count_below_rises ts x y h in omega (arith, one, rest)

pub count_above_rises : (ts : List ℤ) (x y : ℤ) → y ≤ℤ x → count_above ts x ≤ count_above ts y
count_above_rises [] x y h = omega arith
count_above_rises (t ∷ ts) x y h = let one = one_above t x y h in let rest = count_above_rises ts x y h in omega (arith, one, rest)

count_below_head : (t x y : ℤ) → t ≡ x → x <ℤ y → cond (int_lt t x) 1 0 < cond (int_lt t y) 1 0
count_below_head t x y e h = grind (arith, ints)

count_above_head : (t x y : ℤ) → t ≡ x → y <ℤ x → cond (int_lt x t) 1 0 < cond (int_lt y t) 1 0
count_above_head t x y e h = grind (arith, ints)

-- it falls where an end goes to a threshold
count_below_falls : (ts : List ℤ) (x y : ℤ) (k : ℕ) → k < length ts → get_or ts k (pos 0) ≡ x → x <ℤ y → count_below ts x < count_below ts y
count_below_falls [] x y k l e h = absurd (omega arith)
count_below_falls (t ∷ ts) x y zero l e h = let one = count_below_head t x y e h in let rest = count_below_rises ts x y (omega (arith, ints)) in omega (arith, one, rest)
count_below_falls (t ∷ ts) x y (suc k) l e h = let one = one_below t x y (omega (arith, ints)) in let rest = count_below_falls ts x y k (omega arith) e h in omega (arith, one, rest)

count_above_falls : (ts : List ℤ) (x y : ℤ) (k : ℕ) → k < length ts → get_or ts k (pos 0) ≡ x → y <ℤ x → count_above ts x < count_above ts y
count_above_falls [] x y k l e h = absurd (omega arith)
count_above_falls (t ∷ ts) x y zero l e h = let one = count_above_head t x y e h in let rest = count_above_rises ts x y (omega (arith, ints)) in omega (arith, one, rest)
count_above_falls (t ∷ ts) x y (suc k) l e h = let one = one_above t x y (omega (arith, ints)) in let rest = count_above_falls ts x y k (omega arith) e h in omega (arith, one, rest)

below_falls_at : (ts : List ℤ) (x y : ℤ) → IsListed ts x → x <ℤ y → count_below ts x < count_below ts y
below_falls_at ts x y (k, l, e) h = count_below_falls ts x y k l e h

above_falls_at : (ts : List ℤ) (x y : ℤ) → IsListed ts x → y <ℤ x → count_above ts x < count_above ts y
above_falls_at ts x y (k, l, e) h = count_above_falls ts x y k l e h

pub low_falls : (ts : List ℤ) (old new : ℤ) → 0 < length ts → first_of ts ≤ℤ new → (count_below ts (widened_low ts old new) ≤ count_below ts old) × (new <ℤ old → count_below ts (widened_low ts old new) < count_below ts old)
low_falls ts old new some h = (count_below_rises ts (widened_low ts old new) old (low_not_above ts old new h).0, falls)
  where
    falls : new <ℤ old → count_below ts (widened_low ts old new) < count_below ts old
    falls lt =
        let is = nearest_below_is_nearest ts new some h in
        subst (λ (x : ℤ). count_below ts x < count_below ts old) (sym (low_moved ts old new lt)) (below_falls_at ts (nearest_below ts new) old is.listed (let l = is.below in omega (arith, ints, l)))

pub high_falls : (ts : List ℤ) (old new : ℤ) → 0 < length ts → new ≤ℤ last_of ts → (count_above ts (widened_high ts old new) ≤ count_above ts old) × (old <ℤ new → count_above ts (widened_high ts old new) < count_above ts old)
high_falls ts old new some h = (count_above_rises ts (widened_high ts old new) old (high_not_below ts old new h).0, falls)
  where
    falls : old <ℤ new → count_above ts (widened_high ts old new) < count_above ts old
    falls lt =
        let is = nearest_above_is_nearest ts new some h in
        subst (λ (x : ℤ). count_above ts x < count_above ts old) (sym (high_moved ts old new lt)) (above_falls_at ts (nearest_above ts new) old is.listed (let l = is.above in omega (arith, ints, l)))

pub count_below_most : (ts : List ℤ) (z : ℤ) → count_below ts z ≤ length ts
count_below_most [] z = omega arith
count_below_most (t ∷ ts) z = let one = one_at_most t z in let rest = count_below_most ts z in omega (arith, one, rest)

pub count_above_most : (ts : List ℤ) (z : ℤ) → count_above ts z ≤ length ts
count_above_most [] z = omega arith
count_above_most (t ∷ ts) z = let one = one_at_most z t in let rest = count_above_most ts z in omega (arith, one, rest)

-- ---- an end that is kept, or moved to the nearest threshold
pub low_is : (ts : List ℤ) (old new end : ℤ) → 0 < length ts → first_of ts ≤ℤ new → (old ≤ℤ new → end ≡ old) → (new <ℤ old → IsNearestBelow ts new end) → end ≡ widened_low ts old new
low_is ts old new end some h kept moved = by_lt_z new old
    (λ (lt : new <ℤ old). one_nearest_below ts new end (nearest_below ts new) (moved lt) (nearest_below_is_nearest ts new some h) ∙ sym (low_moved ts old new lt))
    (λ (le : old ≤ℤ new). kept le ∙ sym (low_kept ts old new le))

pub high_is : (ts : List ℤ) (old new end : ℤ) → 0 < length ts → new ≤ℤ last_of ts → (new ≤ℤ old → end ≡ old) → (old <ℤ new → IsNearestAbove ts new end) → end ≡ widened_high ts old new
high_is ts old new end some h kept moved = by_lt_z old new
    (λ (lt : old <ℤ new). one_nearest_above ts new end (nearest_above ts new) (moved lt) (nearest_above_is_nearest ts new some h) ∙ sym (high_moved ts old new lt))
    (λ (le : new ≤ℤ old). kept le ∙ sym (high_kept ts old new le))

pub interval_is : (i : Interval) (low high : ℤ) → i.low ≡ low → i.high ≡ high → i ≡ interval low high
interval_is i low high e f = ap (λ (x : ℤ). interval x i.high) e ∙ ap (λ (y : ℤ). interval low y) f
