-- The numbers that literals write.
use Rattle.std.proofs.Common.{◌≡◌, ℕ, ◌+◌, ◌-◌, ◌*◌, ◌^◌, ◌<◌, ◌≤◌, ◌==◌, ℤ, pos, Bool, true, false, List, length, get_or, drop, inl, inr, refl, sym, ap, subst, ◌∙◌, arith}
use Rattle.std.specs.Prelude.{nat_le}
use Rattle.std.proofs.lemmas.Bool.{cases_lt}
use Rattle.std.proofs.lemmas.Bool.Decides.{nat_tests}
use Rattle.std.proofs.lemmas.Int.{ints}
use Rattle.std.proofs.lemmas.List.{drop_more, drop_all}
use Rattle.dec_num.specs.declared.types.Scaled.{Scaled}
use Rattle.dec_num.proofs.Powers.{ten_monotone, ten-add}
use Rattle.cob_tree.specs.declared.token.Num.{Num}
use Rattle.cob_program.specs.Values.{digit_of, numeral, negated, literal}
use Rattle.cob_program.specs.Bounds.{is_small, literal_bound}
use Rattle.cob_program.proofs.Steps.{both, literal_within}
use Rattle.sum_ranges.specs.declared.ranged.Ranged.{Ranged}
use Rattle.sum_ranges.specs.Ranged.{decimal, point}
use Rattle.sum_ranges.specs.SumRanges.{turned}
use Rattle.sum_ranges.specs.Sizes.{IsSmallRange}
use Rattle.sum_ranges.proofs.Bounded.{point_within, small_range_of}

digit_low : (c : ℕ) → digit_of c ≤ 9
digit_low c = omega arith

pub numeral_step : (cs : List ℕ) (i n c : ℕ) → i < length cs → c ≡ get_or cs i 0 → numeral n (drop i cs) ≡ numeral (10 * n + digit_of c) (drop (i + 1) cs)
numeral_step cs i n c h e = rw e (ap (numeral n) (drop_more cs i 0 h))

pub numeral_end : (cs : List ℕ) (i n : ℕ) → length cs ≤ i → numeral n (drop i cs) ≡ n
numeral_end cs i n h = ap (numeral n) (drop_all i cs h)

pub numeral_room : (i n c : ℕ) → i < 37 → n < 10 ^ i → 10 * n + digit_of c < 10 ^ (i + 1)
numeral_room i n c h k = omega (arith, digit_low c, ten-add i 1)

pub ruleset numerals = (numeral_step, numeral_end, numeral_room, ten_monotone)

few_digits : (n : ℕ) → nat_le (10 ^ n - 1) (10 ^ 37 - 1) ≡ true → n ≤ 37
few_digits n e = elim (cases_lt 37 n) as (λ _. n ≤ 37) [ inl h ↦ absurd (omega (arith, at_most (10 ^ n - 1) (10 ^ 37 - 1) e, ten_monotone 38 n h)) | inr h ↦ h ]
  where
    at_most : (a b : ℕ) → nat_le a b ≡ true → a ≤ b
    at_most a b e = grind (arith, nat_tests)

pub literal_digits : (n : Num) → is_small (literal_bound n) ≡ true → length n.digits ≤ 37
literal_digits n e = few_digits (length n.digits) (both (nat_le (10 ^ length n.digits - 1) (10 ^ 37 - 1)) (nat_le n.scale 37) e).0

point_small : (n : Num) → is_small (literal_bound n) ≡ true → IsSmallRange (point (literal n))
point_small n e = small_range_of (point (literal n)) (literal_bound n) (point_within (literal n) (literal_bound n) (literal_within n)) e

back_turned : (minus : Bool) (v : Scaled) → IsSmallRange (point (negated minus v)) → IsSmallRange (point v)
back_turned false v h = h
back_turned true v h = record {
  units = record { ordered = omega (arith, ints); low = omega (arith, ints, h.units.low); high = omega (arith, ints, h.units.low) };
  scale = h.scale;
}

turned_point : (minus : Bool) (v : Scaled) → turned minus (point v) ≡ point (negated minus v)
turned_point false v = refl
turned_point true v = refl

digits_of : Num → Scaled
digits_of n = decimal (pos (numeral 0 n.digits)) n.scale

pub literal_units_small : (n : Num) (r : Ranged) (u : ℤ) → is_small (literal_bound n) ≡ true → u ≡ pos (numeral 0 n.digits) → r ≡ point (decimal u n.scale) → IsSmallRange r
literal_units_small n r u e eu er =
    subst IsSmallRange (sym (er ∙ ap (λ x. point (decimal x n.scale)) eu)) (back_turned (n.sign == 45) (decimal (pos (numeral 0 n.digits)) n.scale) (point_small n e))

pub literal_gives : (n : Num) (p r : Ranged) (u : ℤ) → u ≡ pos (numeral 0 n.digits) → p ≡ point (decimal u n.scale) → r ≡ turned (n.sign == 45) p → r ≡ point (literal n)
literal_gives n p r u eu ep er =
    er ∙ ap (turned (n.sign == 45)) (ep ∙ ap (λ x. point (decimal x n.scale)) eu) ∙ turned_point (n.sign == 45) (decimal (pos (numeral 0 n.digits)) n.scale)

pub literal_small : (n : Num) (r : Ranged) → is_small (literal_bound n) ≡ true → r ≡ point (literal n) → IsSmallRange r
literal_small n r e is = subst IsSmallRange (sym is) (point_small n e)

pub ruleset literals = (literal_digits, literal_units_small, literal_gives, literal_small)
