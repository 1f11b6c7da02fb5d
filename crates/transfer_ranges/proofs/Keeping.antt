-- What receivers keep of intervals.
use Rattle.std.proofs.Common.{◌≡◌, ℕ, ◌-◌, ◌^◌, ◌<◌, ◌≤◌, ◌||◌, Bool, true, false, if◌then◌else◌, ℤ, pos, neg_ℤ, ◌≤ℤ◌, Option, Some, None, inl, inr, refl, sym, ap, subst, ◌∙◌, arith}
use Rattle.std.specs.Prelude.{◌↔◌, ◌<ℤ◌, ◌-ℤ◌, int_le, int_lt, unsigned_abs}
use Rattle.std.specs.Option.{option_map}
use Rattle.std.specs.Int.{int_max, int_min}
use Rattle.std.proofs.lemmas.Int.{ints, clamps}
use Rattle.std.proofs.lemmas.Bool.{or_cases}
use Rattle.dec_num.proofs.Powers.{ten_positive}
use Rattle.interval_domain.specs.declared.bounds.Interval.{Interval}
use Rattle.interval_domain.specs.Bounds.{Holds, IsLeast}
use Rattle.interval_domain.specs.Corners.{interval}
use Rattle.transfer_ranges.specs.declared.amounts.Receiver.{Receiver}
use Rattle.transfer_ranges.specs.Receivers.{counter, kept_units}
use Rattle.transfer_ranges.specs.Results.{IsLeastIfAny, IsInBoth, IsHeld, IsKept, IsExceeded}
use Rattle.transfer_ranges.specs.ResultRanges.{if_any, meeting, plus_minus, greatest_size, absolutes, most, held_range, kept_range, fitted, exceeds, lowered, count_range}

-- ---- numbers of two intervals

pub le_of : (x y : ℤ) → int_le x y ≡ true → x ≤ℤ y
le_of x y e = grind (arith, ints)

pub not_le_of : (x y : ℤ) → int_le x y ≡ false → x ≤ℤ y → ⊥
not_le_of x y e h = grind (arith, ints)

pub both_held : (i j : Interval) (z : ℤ) → IsInBoth i j z → Holds (meeting i j) z
both_held i j z (h, k) = (omega (arith, ints, clamps, h.0, k.0), omega (arith, ints, clamps, h.1, k.1))

pub in_both : (i j : Interval) (z : ℤ) → Holds (meeting i j) z → IsInBoth i j z
in_both i j z h =
    ((omega (arith, ints, clamps, h.0), omega (arith, ints, clamps, h.1)), (omega (arith, ints, clamps, h.0), omega (arith, ints, clamps, h.1)))

pub least_of_any : (i : Interval) → IsLeastIfAny (Holds i) (if_any i)
least_of_any i = go (int_le i.low i.high) refl
  where
    go : (some : Bool) → int_le i.low i.high ≡ some → IsLeastIfAny (Holds i) (if some then Some i else None)
    go true e =
        let ordered : i.low ≤ℤ i.high = le_of i.low i.high e in
        record { holds = λ z h. h; low_is_one = (omega (arith, ints), ordered); high_is_one = (ordered, omega (arith, ints)) }
    go false e = λ z h. not_le_of i.low i.high e (omega (arith, ints, h.0, h.1))

-- the same numbers have the same least interval
pub least_same : (R S : ℤ → Type 0) (o : Option Interval) → ((z : ℤ) → R z → S z) → ((z : ℤ) → S z → R z) → IsLeastIfAny R o → IsLeastIfAny S o
least_same R S None to from h = λ z k. h z (from z k)
least_same R S (Some i) to from h = record { holds = λ z k. h.holds z (from z k); low_is_one = to i.low h.low_is_one; high_is_one = to i.high h.high_is_one }

pub both_least : (i j : Interval) → IsLeastIfAny (IsInBoth i j) (if_any (meeting i j))
both_least i j = least_same (Holds (meeting i j)) (IsInBoth i j) (if_any (meeting i j)) (in_both i j) (both_held i j) (least_of_any (meeting i j))

-- ---- digits

room_within : (limit : ℕ) (z : ℤ) → unsigned_abs z < limit → Holds (plus_minus (pos (limit - 1))) z
room_within limit z h = (omega (arith, ints, h), omega (arith, ints, h))

within_room : (limit : ℕ) (z : ℤ) → 1 ≤ limit → Holds (plus_minus (pos (limit - 1))) z → unsigned_abs z < limit
within_room limit z some h = omega (arith, ints, some, h.0, h.1)

pub some_room : (digits : ℕ) → 1 ≤ 10 ^ digits
some_room digits = ten_positive digits

pub held_least : (digits : ℕ) (i : Interval) → IsLeastIfAny (IsHeld digits i) (held_range digits i)
held_least digits i =
    least_same (IsInBoth i (plus_minus (most digits))) (IsHeld digits i) (held_range digits i)
    (λ z h. (h.0, within_room (10 ^ digits) z (some_room digits) h.1))
    (λ z h. (h.0, room_within (10 ^ digits) z h.1))
    (both_least i (plus_minus (most digits)))

-- ---- signs

abbrev pub IsAbsolute : Interval → ℤ → Type 0
IsAbsolute i z = (w : ℤ) × Holds i w × (z ≡ pos (unsigned_abs w))

nearest_zero : (i : Interval) → i.low ≤ℤ i.high → IsAbsolute i (absolutes i).low
nearest_zero i h = (int_max i.low (int_min i.high (pos 0)), (omega (arith, ints, clamps, h), omega (arith, ints, clamps, h)), omega (arith, ints, clamps, h))

farthest : (i : Interval) → i.low ≤ℤ i.high → IsAbsolute i (greatest_size i)
farthest i h = go (int_le (neg_ℤ i.low) i.high) refl
  where
    go : (b : Bool) → int_le (neg_ℤ i.low) i.high ≡ b → IsAbsolute i (greatest_size i)
    go true e = let k : neg_ℤ i.low ≤ℤ i.high = le_of (neg_ℤ i.low) i.high e in (i.high, (h, omega (arith, ints)), omega (arith, ints, clamps, h, k))
    go false e =
        let k : i.high ≤ℤ neg_ℤ i.low = grind (arith, ints) in
        (i.low, (omega (arith, ints), h), omega (arith, ints, clamps, h, k))

absolutes_least : (i : Interval) → i.low ≤ℤ i.high → IsLeast (IsAbsolute i) (absolutes i)
absolutes_least i h = record {
  holds = λ z (w, k, e). (omega (arith, ints, clamps, k.0, k.1, e), omega (arith, ints, clamps, k.0, k.1, e));
  low_is_one = nearest_zero i h;
  high_is_one = farthest i h;
}

absolute_if_any : (i : Interval) → IsLeastIfAny (IsAbsolute i) (option_map absolutes (if_any i))
absolute_if_any i = go (int_le i.low i.high) refl
  where
    go : (some : Bool) → int_le i.low i.high ≡ some → IsLeastIfAny (IsAbsolute i) (option_map absolutes (if some then Some i else None))
    go true e = absolutes_least i (le_of i.low i.high e)
    go false e = λ z (w, h, k). not_le_of i.low i.high e (omega (arith, ints, h.0, h.1))

signed_if_any : (i : Interval) → IsLeastIfAny (λ z. (w : ℤ) × Holds i w × (z ≡ w)) (option_map (kept_range true) (if_any i))
signed_if_any i = go (int_le i.low i.high) refl
  where
    go : (some : Bool) → int_le i.low i.high ≡ some → IsLeastIfAny (λ z. (w : ℤ) × Holds i w × (z ≡ w)) (option_map (kept_range true) (if some then Some i else None))
    go true e =
        let ordered : i.low ≤ℤ i.high = le_of i.low i.high e in
        record {
          holds = λ z (w, h, k). subst (Holds i) (sym k) h;
          low_is_one = (i.low, (omega (arith, ints), ordered), refl);
          high_is_one = (i.high, (ordered, omega (arith, ints)), refl);
        }
    go false e = λ z (w, h, k). not_le_of i.low i.high e (omega (arith, ints, h.0, h.1))

-- the numbers of an interval that digits hold
abbrev pub room_of : ℕ → Interval → Interval
room_of digits i = meeting i (plus_minus (most digits))

pub in_room : (digits : ℕ) (i : Interval) (z : ℤ) → IsHeld digits i z → Holds (room_of digits i) z
in_room digits i z h = both_held i (plus_minus (most digits)) z (h.0, room_within (10 ^ digits) z h.1)

pub of_room : (digits : ℕ) (i : Interval) (z : ℤ) → Holds (room_of digits i) z → IsHeld digits i z
of_room digits i z h =
    let both : IsInBoth i (plus_minus (most digits)) z = in_both i (plus_minus (most digits)) z h in
    (both.0, within_room (10 ^ digits) z (some_room digits) both.1)

kept_by : (signed : Bool) (digits : ℕ) (i : Interval) → IsLeastIfAny (λ z. (w : ℤ) × IsHeld digits i w × (z ≡ kept_units signed w)) (option_map (kept_range signed) (held_range digits i))
kept_by true digits i =
    least_same (λ z. (w : ℤ) × Holds (room_of digits i) w × (z ≡ w)) (λ z. (w : ℤ) × IsHeld digits i w × (z ≡ w)) (option_map (kept_range true) (held_range digits i))
    (λ z (w, h, k). (w, of_room digits i w h, k))
    (λ z (w, h, k). (w, in_room digits i w h, k))
    (signed_if_any (room_of digits i))
kept_by false digits i =
    least_same (IsAbsolute (room_of digits i)) (λ z. (w : ℤ) × IsHeld digits i w × (z ≡ pos (unsigned_abs w))) (option_map (kept_range false) (held_range digits i))
    (λ z (w, h, k). (w, of_room digits i w h, k))
    (λ z (w, h, k). (w, in_room digits i w h, k))
    (absolute_if_any (room_of digits i))

pub kept_least : (r : Receiver) (i : Interval) → IsLeastIfAny (IsKept r i) (fitted r i)
kept_least r i = kept_by r.signed r.digits i

-- ---- what doesn't fit

lt_of : (x y : ℤ) → int_lt x y ≡ true → x ≤ℤ y
lt_of x y e = grind (arith, ints)

exceeding_low : (limit : ℕ) (low : ℤ) → 1 ≤ limit → int_lt low (neg_ℤ (pos (limit - 1))) ≡ true → limit ≤ unsigned_abs low
exceeding_low limit low some e = grind (arith, ints)

exceeding_high : (limit : ℕ) (high : ℤ) → 1 ≤ limit → int_lt (pos (limit - 1)) high ≡ true → limit ≤ unsigned_abs high
exceeding_high limit high some e = grind (arith, ints)

exceeding : (limit : ℕ) (i : Interval) (z : ℤ) → 1 ≤ limit → Holds i z → limit ≤ unsigned_abs z → (int_lt i.low (neg_ℤ (pos (limit - 1))) || int_lt (pos (limit - 1)) i.high) ≡ true
exceeding limit i z some h k = grind (arith, ints)

pub exceeded : (digits : ℕ) (i : Interval) → i.low ≤ℤ i.high → (exceeds digits i ≡ true) ↔ IsExceeded digits i
exceeded digits i ordered = (
  λ e. elim (or_cases (int_lt i.low (neg_ℤ (most digits))) (int_lt (most digits) i.high) e) [
    | inl low ↦ (i.low, (omega (arith, ints), ordered), exceeding_low (10 ^ digits) i.low (some_room digits) low)
    | inr high ↦ (i.high, (ordered, omega (arith, ints)), exceeding_high (10 ^ digits) i.high (some_room digits) high)
  ],
  λ (z, h, k). exceeding (10 ^ digits) i z (some_room digits) h k,
)

-- ---- counters

pub lowered_least : (i : Interval) → i.low ≤ℤ i.high → IsLeast (λ z. (w : ℤ) × Holds i w × (z ≡ w -ℤ pos 1)) (lowered i)
lowered_least i ordered = record {
  holds = λ z (w, h, e). (omega (arith, ints, h.0, e), omega (arith, ints, h.1, e));
  low_is_one = (i.low, (omega (arith, ints), ordered), refl);
  high_is_one = (i.high, (ordered, omega (arith, ints)), refl);
}

pub counted_least : (i : Interval) → IsLeastIfAny (IsHeld 18 i) (count_range i)
counted_least i =
    least_same (IsKept counter i) (IsHeld 18 i) (count_range i)
    (λ z (w, h, e). subst (IsHeld 18 i) (sym e) h) (λ z h. (z, h, refl)) (kept_least counter i)

-- ---- what the calls give

pub met_some : (a : Interval) (limit low high : ℤ) → low ≡ int_max a.low (neg_ℤ limit) → high ≡ int_min a.high limit → low ≤ℤ high → Some (interval low high) ≡ if_any (meeting a (plus_minus limit))
met_some a limit low high e f h =
    let le : int_le low high ≡ true = grind (arith, ints) in
    let found : Some (interval low high) ≡ if_any (interval low high) = rw le refl in
    found ∙ ap (λ l. if_any (interval l high)) e ∙ ap (λ u. if_any (interval (int_max a.low (neg_ℤ limit)) u)) f

pub met_none : (a : Interval) (limit low high : ℤ) → low ≡ int_max a.low (neg_ℤ limit) → high ≡ int_min a.high limit → high <ℤ low → None ≡ if_any (meeting a (plus_minus limit))
met_none a limit low high e f h =
    let gt : int_le low high ≡ false = grind (arith, ints) in
    let missing : None ≡ if_any (interval low high) = rw gt refl in
    missing ∙ ap (λ l. if_any (interval l high)) e ∙ ap (λ u. if_any (interval (int_max a.low (neg_ℤ limit)) u)) f

pub absolutes_from : (a : Interval) (low high : ℤ) → low ≡ int_max (pos 0) (int_max a.low (neg_ℤ a.high)) → high ≡ greatest_size a → interval low high ≡ absolutes a
absolutes_from a low high e f = ap (λ l. interval l high) e ∙ ap (λ u. interval (int_max (pos 0) (int_max a.low (neg_ℤ a.high))) u) f
