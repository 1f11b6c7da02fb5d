-- Remainders and amounts in code.
use Rattle.std.proofs.Common.{◌≡◌, ℕ, ◌+◌, ◌-◌, ◌^◌, ◌≤◌, true, ℤ, pos, negsuc, neg_ℤ, ◌*ℤ◌, ◌-ℤ◌, ◌≤ℤ◌, Option, Some, None, sym, ap, subst, ◌∙◌, to_z, of_z, arith}
use Rattle.std.specs.Prelude.{IfSome}
use Rattle.std.specs.Int.{w128, int_max, int_min}
use Rattle.std.specs.Option.{option_map}
use Rattle.std.proofs.lemmas.Int.{ints, clamps}
use Rattle.std.proofs.Math.Nat.{le_refl}
use Rattle.dec_num.specs.declared.types.Mode.{Mode}
use Rattle.dec_num.specs.declared.types.Mode.TheVariants.{Trunc}
use Rattle.dec_num.proofs.Powers.{ten_monotone}
use Rattle.interval_domain.specs.declared.bounds.Interval.{Interval}
use Rattle.interval_domain.specs.Bounds.{IsSmall, IsInterval}
use Rattle.interval_domain.proofs.IntervalEnds.{sums_are_least, products_are_least}
use Rattle.sum_ranges.specs.declared.ranged.Ranged.{Ranged}
use Rattle.sum_ranges.specs.Ranged.{ranged}
use Rattle.sum_ranges.specs.SumRanges.{raised, joint, added, turned, plus_range, product_range}
use Rattle.cob_program.specs.Values.{◌>>=◌}
use Rattle.transfer_ranges.specs.declared.amounts.AmountRange.{AmountRange}
use Rattle.transfer_ranges.specs.declared.amounts.AmountRange.TheVariants as range
use Rattle.transfer_ranges.specs.Results.{IsInside}
use Rattle.transfer_ranges.specs.ResultRanges.{if_any, meeting, plus_minus, greatest_size, near_range, quotient_units, limited, rest_range, amount_units}
use Rattle.transfer_ranges.specs.Sizes.{IsSmallRest, capped_at, IsCapped, IsCappedIfAny, IsSameFor}
use Rattle.sum_ranges.specs.Sizes.{IsSmallRange}
use Rattle.sum_ranges.specs.Working.{CanAddRanges, CanMultiplyRanges}
use Rattle.transfer_ranges.proofs.Capping.{interval_same}

-- ---- remainders

pub product_small : (a b p : Ranged) → CanMultiplyRanges a b → p ≡ product_range a b → IsSmallRange p
product_small a b p can e =
    let least = products_are_least a.units b.units can.left.ordered can.right.ordered in
    let small : IsInterval (product_range a b).units = record {
      ordered = (least.holds (product_range a b).units.low least.low_is_one).1;
      low = can.products (product_range a b).units.low least.low_is_one;
      high = can.products (product_range a b).units.high least.high_is_one;
    } in
    subst IsSmallRange (sym e) (record { units = small; scale = can.scale })

pub sum_small : (a b s : Ranged) → CanAddRanges a b → s ≡ plus_range a b → IsSmallRange s
sum_small a b s can e =
    let p = raised a (joint a b) in
    let q = raised b (joint a b) in
    let least = sums_are_least p q can.left.ordered can.right.ordered in
    let small : IsInterval (added p q) = record {
      ordered = (least.holds (added p q).low least.low_is_one).1;
      low = can.sums (added p q).low least.low_is_one;
      high = can.sums (added p q).high least.high_is_one;
    } in
    subst IsSmallRange (sym e) (record { units = small; scale = can.scale })

-- the difference by which a remainder is worked out
pub difference_small : (top under q product opposite difference : Ranged) → CanAddRanges top (turned true (product_range under q)) → product ≡ product_range under q → opposite ≡ turned true product → difference ≡ plus_range top opposite → IsSmallRange difference
difference_small top under q product opposite difference can e f g =
    sum_small top (turned true (product_range under q)) difference can (g ∙ ap (plus_range top) (f ∙ ap (turned true) e))

pub left_by : (top under q product opposite difference : Ranged) (size : ℤ) (r : Option Ranged) → product ≡ product_range under q → opposite ≡ turned true product → difference ≡ plus_range top opposite →
    r ≡ limited size (under.scale + q.scale) difference → size ≡ greatest_size under.units → r ≡ limited (greatest_size under.units) (under.scale + q.scale) (plus_range top (turned true (product_range under q)))
left_by top under q product opposite difference size r e f g h k =
    let is : difference ≡ plus_range top (turned true (product_range under q)) = g ∙ ap (plus_range top) (f ∙ ap (turned true) e) in
    h ∙ ap (limited size (under.scale + q.scale)) is ∙ ap (λ t. limited t (under.scale + q.scale) (plus_range top (turned true (product_range under q)))) k

-- ---- limits

product_positive : (size : ℤ) (k : ℕ) → pos 0 ≤ℤ size → pos 0 ≤ℤ (size *ℤ pos k)
product_positive (pos n) k h = omega (arith, ints)
product_positive (negsuc n) k h = absurd (omega (arith, ints, h))

limit_room : (limit size : ℤ) (shift : ℕ) → pos 0 ≤ℤ size → limit ≡ int_min (size *ℤ pos (10 ^ shift)) (pos (10 ^ 37)) → (pos 0 ≤ℤ limit) × (limit ≤ℤ pos (10 ^ 37))
limit_room limit size shift h e = between limit (size *ℤ pos (10 ^ shift)) (product_positive size (10 ^ shift) h) e
  where
    between : (x p : ℤ) → pos 0 ≤ℤ p → x ≡ int_min p (pos (10 ^ 37)) → (pos 0 ≤ℤ x) × (x ≤ℤ pos (10 ^ 37))
    between x p h e = (omega (arith, ints, clamps, h, e), omega (arith, ints, clamps, h, e))

-- One below a limit of more than 37 digits is none for a small range.
end_above : (low limit : ℤ) → IsSmall low → int_max low (neg_ℤ (limit -ℤ pos 1)) ≡ int_max low (neg_ℤ (int_min limit (pos (10 ^ 37)) -ℤ pos 1))
end_above low limit h = omega (arith, ints, clamps, h)

end_below : (high limit : ℤ) → IsSmall high → int_min high (limit -ℤ pos 1) ≡ int_min high (int_min limit (pos (10 ^ 37)) -ℤ pos 1)
end_below high limit h = omega (arith, ints, clamps, h)

same_meeting : (a : Interval) (limit : ℤ) → IsInterval a → meeting a (plus_minus (limit -ℤ pos 1)) ≡ meeting a (plus_minus (int_min limit (pos (10 ^ 37)) -ℤ pos 1))
same_meeting a limit h =
    interval_same (meeting a (plus_minus (limit -ℤ pos 1))) (meeting a (plus_minus (int_min limit (pos (10 ^ 37)) -ℤ pos 1))) (end_above a.low limit h.low) (end_below a.high limit h.high)

abbrev met : Interval → ℤ → Option Interval
met a limit = if_any (meeting a (plus_minus limit))

-- one below a limit, as machine words have it
abbrev pub one_below : ℤ → ℤ
one_below limit = to_z w128 (of_z w128 (to_z w128 (of_z w128 limit) -ℤ pos 1))

one_less : (limit : ℤ) → pos 0 ≤ℤ limit → limit ≤ℤ pos (10 ^ 37) → one_below limit ≡ limit -ℤ pos 1
one_less limit low high =
    let back : to_z w128 (of_z w128 limit) ≡ limit = omega (arith, ints, low, high) in
    let same : to_z w128 (of_z w128 (limit -ℤ pos 1)) ≡ limit -ℤ pos 1 = omega (arith, ints, low, high) in
    ap (λ z. to_z w128 (of_z w128 (z -ℤ pos 1))) back ∙ same

pub limited_by : (size limit : ℤ) (scale : ℕ) (r : Ranged) (o : Option Interval) → pos 0 ≤ℤ size → IsSmallRange r → limit ≡ int_min (size *ℤ pos (10 ^ (r.scale - scale))) (pos (10 ^ 37)) → o ≡ met r.units (one_below limit)
    → option_map (λ j. ranged j r.scale) o ≡ limited size scale r
limited_by size limit scale r o positive small e f =
    let room = limit_room limit size (r.scale - scale) positive e in
    ap (option_map (λ j. ranged j r.scale))
    (f ∙ ap (met r.units) (one_less limit room.0 room.1 ∙ ap (λ z. z -ℤ pos 1) e) ∙ ap if_any (sym (same_meeting r.units (size *ℤ pos (10 ^ (r.scale - scale))) small.units)))

pub inside_small : (i a : Interval) → IsInterval a → i.low ≤ℤ i.high → IsInside i a → IsInterval i
inside_small i a h ordered k = record {
  ordered = ordered;
  low = omega (arith, ints, h.low, h.high, ordered, k.0, k.1);
  high = omega (arith, ints, h.low, h.high, ordered, k.0, k.1);
}

-- ---- cut quotients

uncapped : (z : ℤ) → IsSmall z → capped_at (10 ^ 37) z ≡ z
uncapped z h = omega (arith, ints, clamps, h)

pub exact_found : (top under : Ranged) (scale : ℕ) (exact : Option Interval) (i : Interval) → IsCappedIfAny (10 ^ 37) exact (Some i) → IfSome exact (λ q. IsSmallRest top under (ranged q scale)) → exact ≡ Some i
exact_found top under scale None i capped small = absurd capped
exact_found top under scale (Some q) i capped small =
    ap Some (interval_same q i (sym (capped.low ∙ uncapped q.low small.quotient.units.low)) (sym (capped.high ∙ uncapped q.high small.quotient.units.high)))

pub rest_is_small : (top under : Ranged) (scale : ℕ) (exact : Option Interval) (i : Interval) → IsCappedIfAny (10 ^ 37) exact (Some i) → IfSome exact (λ q. IsSmallRest top under (ranged q scale)) → IsSmallRest top under (ranged i scale)
rest_is_small top under scale exact i capped small =
    subst (λ o. IfSome o (λ q. IsSmallRest top under (ranged q scale))) (exact_found top under scale exact i capped small) small

pub rest_found : (top under : Ranged) (scale : ℕ) (i : Interval) (r : Option Ranged) → IsCappedIfAny (10 ^ 37) (quotient_units Trunc scale top under) (Some i) →
    IfSome (quotient_units Trunc scale top under) (λ q. IsSmallRest top under (ranged q scale)) →
    r ≡ limited (greatest_size under.units) (under.scale + scale) (plus_range top (turned true (product_range under (ranged i scale)))) → r ≡ rest_range scale top under
rest_found top under scale i r capped small e =
    e ∙ ap (λ o. o >>= λ q. limited (greatest_size under.units) (under.scale + scale) (plus_range top (turned true (product_range under (ranged q scale)))))
    (sym (exact_found top under scale (quotient_units Trunc scale top under) i capped small))

-- ---- amounts

pub decimal_same : (mode : Mode) (digits scale : ℕ) (a : AmountRange) (r : Ranged) (i : Interval) → a ≡ range.Decimal r → IsCapped (10 ^ digits) (near_range mode scale r) i → IsSameFor digits (amount_units mode scale a) (Some i)
decimal_same mode digits scale a r i e h =
    subst (λ b. IsSameFor digits (amount_units mode scale b) (Some i)) (sym e) (10 ^ digits, le_refl (10 ^ digits), h)

pub quotient_same : (mode : Mode) (digits scale : ℕ) (a : AmountRange) (top under : Ranged) (o : Option Interval) → digits ≤ 18 → a ≡ range.Quotient top under →
    IsCappedIfAny (10 ^ 37) (quotient_units mode scale top under) o → IsSameFor digits (amount_units mode scale a) o
quotient_same mode digits scale a top under o few e h =
    subst (λ b. IsSameFor digits (amount_units mode scale b) o) (sym e) (10 ^ 37, ten_monotone digits 37 (omega (arith, few)), h)

pub none_left : (mode : Mode) (digits scale k : ℕ) (a : AmountRange) (top under : Ranged) → a ≡ range.Remainder top under k → None ≡ rest_range k top under → IsSameFor digits (amount_units mode scale a) None
none_left mode digits scale k a top under e f =
    subst (λ b. IsSameFor digits (amount_units mode scale b) None) (sym e)
    (subst (λ o. IsSameFor digits (option_map (near_range mode scale) o) None) f (10 ^ digits, le_refl (10 ^ digits), tt))

pub some_left : (mode : Mode) (digits scale k : ℕ) (a : AmountRange) (top under r : Ranged) (i : Interval) → a ≡ range.Remainder top under k → Some r ≡ rest_range k top under →
    IsCapped (10 ^ digits) (near_range mode scale r) i → IsSameFor digits (amount_units mode scale a) (Some i)
some_left mode digits scale k a top under r i e f h =
    subst (λ b. IsSameFor digits (amount_units mode scale b) (Some i)) (sym e)
    (subst (λ o. IsSameFor digits (option_map (near_range mode scale) o) (Some i)) f (10 ^ digits, le_refl (10 ^ digits), h))
