-- Results lie in their ranges, and those that don't fit are told.
use Rattle.std.proofs.Common.{◌≡◌, ℕ, ◌^◌, ◌<◌, ◌≤◌, Bool, true, false, if◌then◌else◌, ℤ, pos, List, Option, Some, None, refl, sym, ap, ◌∙◌, arith}
use Rattle.std.specs.Prelude.{unsigned_abs, nat_lt, IsSomeAnd}
use Rattle.std.specs.Option.{option_map_or}
use Rattle.std.proofs.lemmas.Int.{ints}
use Rattle.std.proofs.lemmas.Bool.Decides.{nat_tests}
use Rattle.dec_num.specs.declared.types.Mode.{Mode}
use Rattle.dec_num.specs.Exact.{Fraction, near}
use Rattle.interval_domain.specs.declared.bounds.Interval.{Interval}
use Rattle.interval_domain.specs.Bounds.{Holds}
use Rattle.cob_tree.specs.declared.form.Form.{Form}
use Rattle.cob_tree.specs.declared.form.Form.TheVariants as form
use Rattle.cob_program.proofs.Steps.{some_same}
use Rattle.cob_runs.specs.Contents.{digits_of, scale_of, bytes_of, stored}
use Rattle.sum_ranges.specs.Ranged.{IsIn}
use Rattle.sum_ranges.proofs.Least.{ordered_of}
use Rattle.transfer_ranges.specs.declared.amounts.AmountRange.{AmountRange}
use Rattle.transfer_ranges.specs.declared.amounts.AmountRange.TheVariants as range
use Rattle.transfer_ranges.specs.declared.amounts.Receiver.{Receiver}
use Rattle.transfer_ranges.specs.Receivers.{HasRoomFor, kept_units, receiver_of}
use Rattle.transfer_ranges.specs.Amounts.{IsAmount, IsNear}
use Rattle.transfer_ranges.specs.Results.{IsKept}
use Rattle.transfer_ranges.specs.ResultRanges.{near_range, quotient_units, rest_range, amount_units, fitted, exceeds, result_range, may_fail}
use Rattle.transfer_ranges.proofs.Keeping.{kept_least, exceeded}
use Rattle.transfer_ranges.proofs.Rounding.{near_held, decimals_least, quotient_units_least}
use Rattle.transfer_ranges.proofs.Rests.{then_held, mapped_held, held_of_least, rest_in}

pub units_hold : (mode : Mode) (scale : ℕ) (a : AmountRange) (z : ℤ) → IsNear mode scale a z → IsSomeAnd (amount_units mode scale a) (λ i. Holds i z)
units_hold mode scale (range.Decimal r) z (v, (x, h, e), k) = (decimals_least mode scale r (ordered_of x r h)).holds z (v, (x, h, e), k)
units_hold mode scale (range.Quotient top under) z (v, (x, y, h, l, e), k) =
    held_of_least (IsNear mode scale (range.Quotient top under)) (quotient_units mode scale top under) z
    (quotient_units_least mode scale top under (ordered_of x top h) (ordered_of y under l)) (v, (x, y, h, l, e), k)
units_hold mode scale (range.Remainder top under j) z (v, (n, d, x, h, l, e, f), k) =
    mapped_held (rest_range j top under) (IsIn x) (λ i. Holds i z) (near_range mode scale) (rest_in j n d x top under h l e)
    (λ r m. near_held mode scale r x v z m f k)

-- ---- receivers

pub fits_in_range : (mode : Mode) (r : Receiver) (a : AmountRange) (v : Fraction) → IsAmount a v → HasRoomFor r.digits (near mode v (pos r.scale)) →
    IsSomeAnd (result_range mode r a) (λ i. Holds i (kept_units r.signed (near mode v (pos r.scale))))
fits_in_range mode r a v h room =
    let units = near mode v (pos r.scale) in
    then_held (amount_units mode r.scale a) (λ i. Holds i units) (λ i. Holds i (kept_units r.signed units)) (fitted r)
    (units_hold mode r.scale a units (v, h, refl))
    (λ i k. held_of_least (IsKept r i) (fitted r i) (kept_units r.signed units) (kept_least r i) (units, (k, room), refl))

exceeding_told : (digits : ℕ) (o : Option Interval) (z : ℤ) → IsSomeAnd o (λ i. Holds i z) → 10 ^ digits ≤ unsigned_abs z → option_map_or (exceeds digits) o false ≡ true
exceeding_told digits None z h k = absurd h
exceeding_told digits (Some i) z h k = (exceeded digits i (omega (arith, ints, h.0, h.1))).1 (z, h, k)

pub failing_told : (mode : Mode) (r : Receiver) (a : AmountRange) (v : Fraction) → IsAmount a v → 10 ^ r.digits ≤ unsigned_abs (near mode v (pos r.scale)) → may_fail mode r a ≡ true
failing_told mode r a v h k =
    exceeding_told r.digits (amount_units mode r.scale a) (near mode v (pos r.scale)) (units_hold mode r.scale a (near mode v (pos r.scale)) (v, h, refl)) k

-- ---- items

same_scale : (f : Form) → (receiver_of f).scale ≡ scale_of f
same_scale form.Group = refl
same_scale (form.Text n) = refl
same_scale (form.Number digits scale signed kept) = refl
same_scale (form.Edited picture digits scale) = refl

same_digits : (f : Form) → (receiver_of f).digits ≡ digits_of f
same_digits form.Group = refl
same_digits (form.Text n) = refl
same_digits (form.Number digits scale signed kept) = refl
same_digits (form.Edited picture digits scale) = refl

-- an item without a sign gets the bytes of the absolute value
pub bytes_of_kept : (f : Form) (z : ℤ) → bytes_of f (kept_units (receiver_of f).signed z) ≡ bytes_of f z
bytes_of_kept form.Group z = refl
bytes_of_kept (form.Text n) z = refl
bytes_of_kept (form.Number digits scale true kept) z = refl
bytes_of_kept (form.Number digits scale false kept) z = refl
bytes_of_kept (form.Edited picture digits scale) z = refl

below_of : (n m : ℕ) → nat_lt n m ≡ true → n < m
below_of n m e = grind (arith, nat_tests)

above_of : (n m : ℕ) → nat_lt n m ≡ false → m ≤ n
above_of n m e = grind (arith, nat_tests)

module _ (mode : Mode) (f : Form) (a : AmountRange) (v : Fraction) (h : IsAmount a v) where
  same_units : near mode v (pos (receiver_of f).scale) ≡ near mode v (pos (scale_of f))
  same_units = ap (λ s. near mode v (pos s)) (same_scale f)

  pub stored_in_range : (bytes : List ℕ) → stored mode f v ≡ Some bytes → IsSomeAnd (result_range mode (receiver_of f) a) (λ i. (z : ℤ) × Holds i z × (bytes ≡ bytes_of f z))
  stored_in_range bytes e = go (nat_lt (unsigned_abs (near mode v (pos (scale_of f)))) (10 ^ digits_of f)) refl e
    where
      weaker : (o : Option Interval) (z : ℤ) → bytes ≡ bytes_of f z → IsSomeAnd o (λ i. Holds i z) → IsSomeAnd o (λ i. (w : ℤ) × Holds i w × (bytes ≡ bytes_of f w))
      weaker None z k l = l
      weaker (Some i) z k l = (z, l, k)

      go : (fits : Bool) → nat_lt (unsigned_abs (near mode v (pos (scale_of f)))) (10 ^ digits_of f) ≡ fits → (if fits then Some (bytes_of f (near mode v (pos (scale_of f)))) else None) ≡ Some bytes →
          IsSomeAnd (result_range mode (receiver_of f) a) (λ i. (z : ℤ) × Holds i z × (bytes ≡ bytes_of f z))
      go true k l =
          let room : HasRoomFor (receiver_of f).digits (near mode v (pos (receiver_of f).scale)) = rw (same_units, same_digits f) (below_of (unsigned_abs (near mode v (pos (scale_of f)))) (10 ^ digits_of f) k) in
          let is : bytes ≡ bytes_of f (near mode v (pos (scale_of f))) = sym (some_same (bytes_of f (near mode v (pos (scale_of f)))) bytes l) in
          weaker (result_range mode (receiver_of f) a) (kept_units (receiver_of f).signed (near mode v (pos (receiver_of f).scale)))
          (is ∙ ap (bytes_of f) (sym same_units) ∙ sym (bytes_of_kept f (near mode v (pos (receiver_of f).scale))))
          (fits_in_range mode (receiver_of f) a v h room)
      go false k l = absurd cc

  pub kept_is_told : stored mode f v ≡ None → may_fail mode (receiver_of f) a ≡ true
  kept_is_told e = go (nat_lt (unsigned_abs (near mode v (pos (scale_of f)))) (10 ^ digits_of f)) refl e
    where
      go : (fits : Bool) → nat_lt (unsigned_abs (near mode v (pos (scale_of f)))) (10 ^ digits_of f) ≡ fits → (if fits then Some (bytes_of f (near mode v (pos (scale_of f)))) else None) ≡ None → may_fail mode (receiver_of f) a ≡ true
      go true k l = absurd cc
      go false k l =
          let over : 10 ^ (receiver_of f).digits ≤ unsigned_abs (near mode v (pos (receiver_of f).scale)) = rw (same_units, same_digits f) (above_of (unsigned_abs (near mode v (pos (scale_of f)))) (10 ^ digits_of f) k) in
          failing_told mode (receiver_of f) a v h over
