-- What is known of one cell: order, joins, widening.
use Rattle.std.proofs.Common.{◌≡◌, ◌+◌, ◌*◌, ◌<◌, ◌≤◌, List, length, Some, None, ℤ, ◌≤ℤ◌, ◌<ℤ◌, ◌⊎◌, inl, inr, refl, ap, ◌∙◌, arith}
use Rattle.std.proofs.lemmas.Int.{ints, clamps, by_lt_z}
use Rattle.interval_domain.specs.declared.bounds.Interval.{Interval}
use Rattle.interval_domain.specs.Corners.{interval}
use Rattle.interval_domain.specs.Known.{Known, KnownFits, KnownBelow, joined_known, HasEnds, known_rank, widened_known, widened_high}
use Rattle.interval_domain.proofs.Ends.{low_kept, low_not_above, low_from_first, low_falls, high_kept, high_not_below, high_to_last, high_falls, count_below_most, count_above_most}

pub known_reflexive : (c : Known) → KnownBelow c c
known_reflexive None = tt
known_reflexive (Some i) = (omega (arith, ints), omega (arith, ints))

pub below_anything : (c : Known) → KnownBelow c None
below_anything None = tt
below_anything (Some i) = tt

pub known_transitive : (a b c : Known) → KnownBelow a b → KnownBelow b c → KnownBelow a c
known_transitive None b None h k = tt
known_transitive (Some x) b None h k = tt
known_transitive None None (Some z) h k = absurd k
known_transitive (Some x) None (Some z) h k = absurd k
known_transitive None (Some y) (Some z) h k = absurd h
known_transitive (Some x) (Some y) (Some z) (h, i) (k, l) = (omega (arith, ints), omega (arith, ints))

-- ---- joins
pub known_join_left : (a b : Known) → KnownBelow a (joined_known a b)
known_join_left None b = tt
known_join_left (Some x) None = tt
known_join_left (Some x) (Some y) = (omega (arith, ints, clamps), omega (arith, ints, clamps))

pub known_join_right : (a b : Known) → KnownBelow b (joined_known a b)
known_join_right None b = below_anything b
known_join_right (Some x) None = tt
known_join_right (Some x) (Some y) = (omega (arith, ints, clamps), omega (arith, ints, clamps))

pub known_join_least : (a b c : Known) → KnownBelow a c → KnownBelow b c → KnownBelow (joined_known a b) c
known_join_least None b None h k = tt
known_join_least (Some x) None None h k = tt
known_join_least (Some x) (Some y) None h k = tt
known_join_least None b (Some z) h k = absurd h
known_join_least (Some x) None (Some z) h k = absurd k
known_join_least (Some x) (Some y) (Some z) (h, i) (k, l) = (omega (arith, ints, clamps), omega (arith, ints, clamps))

pub known_join_fits : (own : Interval) (a b : Known) → KnownFits own a → KnownFits own b → KnownFits own (joined_known a b)
known_join_fits own None b h k = tt
known_join_fits own (Some x) None h k = tt
known_join_fits own (Some x) (Some y) (h, i, j) (k, l, m) = (omega (arith, ints, clamps), omega (arith, ints, clamps), omega (arith, ints, clamps))

-- ---- widening
pub known_widen_fits : (own : Interval) (ts : List ℤ) (a b : Known) → HasEnds own ts → KnownFits own a → KnownFits own b → KnownFits own (widened_known ts a b)
known_widen_fits own ts None b e h k = tt
known_widen_fits own ts (Some x) None e h k = tt
known_widen_fits own ts (Some x) (Some y) e (h, i, j) (k, l, m) =
    let low = low_not_above ts x.low y.low (omega (arith, ints, e.first)) in
    let high = high_not_below ts x.high y.high (omega (arith, ints, e.last)) in
    let first = low_from_first ts x.low y.low e.some (omega (arith, ints, e.first)) (omega (arith, ints, e.first)) in
    let last = high_to_last ts x.high y.high e.some (omega (arith, ints, e.last)) (omega (arith, ints, e.last)) in
    (omega (arith, ints, first, e.first), omega (arith, ints, low.0, high.0), omega (arith, ints, last, e.last))

pub known_widen_left : (own : Interval) (ts : List ℤ) (a b : Known) → HasEnds own ts → KnownFits own a → KnownFits own b → KnownBelow a (widened_known ts a b)
known_widen_left own ts None b e h k = tt
known_widen_left own ts (Some x) None e h k = tt
known_widen_left own ts (Some x) (Some y) e h (k, l, m) =
    ((low_not_above ts x.low y.low (omega (arith, ints, e.first))).0, (high_not_below ts x.high y.high (omega (arith, ints, e.last))).0)

pub known_widen_right : (own : Interval) (ts : List ℤ) (a b : Known) → HasEnds own ts → KnownFits own a → KnownFits own b → KnownBelow b (widened_known ts a b)
known_widen_right own ts None b e h k = below_anything b
known_widen_right own ts (Some x) None e h k = tt
known_widen_right own ts (Some x) (Some y) e h (k, l, m) =
    ((low_not_above ts x.low y.low (omega (arith, ints, e.first))).1, (high_not_below ts x.high y.high (omega (arith, ints, e.last))).1)

pub known_widen_keeps : (ts : List ℤ) (a b : Known) → KnownBelow b a → widened_known ts a b ≡ a
known_widen_keeps ts None b h = refl
known_widen_keeps ts (Some x) None h = absurd h
known_widen_keeps ts (Some x) (Some y) (h, k) =
    ap (λ low. Some (interval low (widened_high ts x.high y.high))) (low_kept ts x.low y.low h)
    ∙ ap (λ high. Some (interval x.low high)) (high_kept ts x.high y.high k)

-- it grows, or it falls in rank
pub known_falls : (own : Interval) (ts : List ℤ) (a b : Known) → HasEnds own ts → KnownFits own a → KnownFits own b → KnownBelow b a ⊎ (known_rank ts (widened_known ts a b) < known_rank ts a)
known_falls own ts None b e h k = inl (below_anything b)
known_falls own ts (Some x) None e h k = inr (omega arith)
known_falls own ts (Some x) (Some y) e h (k, l, m) =
    by_lt_z y.low x.low
    (λ (lt : y.low <ℤ x.low). inr (let f = low_falls ts x.low y.low e.some (omega (arith, ints, e.first)) in let g = high_falls ts x.high y.high e.some (omega (arith, ints, e.last)) in let s = f.1 lt in omega (arith, s, g.0)))
    (λ (le : x.low ≤ℤ y.low). by_lt_z x.high y.high
    (λ (lt : x.high <ℤ y.high). inr (let f = low_falls ts x.low y.low e.some (omega (arith, ints, e.first)) in let g = high_falls ts x.high y.high e.some (omega (arith, ints, e.last)) in let s = g.1 lt in omega (arith, s, f.0)))
    (λ (ge : y.high ≤ℤ x.high). inl (le, ge)))

pub known_rank_most : (ts : List ℤ) (a : Known) → known_rank ts a ≤ 2 * length ts + 1
known_rank_most ts None = omega arith
known_rank_most ts (Some x) = let low = count_below_most ts x.low in let high = count_above_most ts x.high in omega (arith, low, high)
