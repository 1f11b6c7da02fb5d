-- What is stored lies in the receiver's own range.
use Rattle.std.proofs.Common.{◌≡◌, ℕ, ◌<◌, Bool, true, false, Option, Some, None, ℤ, pos, ◌≤ℤ◌, arith}
use Rattle.std.specs.Prelude.{neg_ℤ, ◌-◌, ◌^◌, unsigned_abs, IfSome}
use Rattle.std.proofs.lemmas.Int.{ints}
use Rattle.dec_num.specs.declared.types.Mode.{Mode}
use Rattle.cob_tree.specs.declared.form.Form.{Form}
use Rattle.cob_tree.specs.declared.form.Form.TheVariants as form
use Rattle.cob_program.specs.Values.{◌>>=◌}
use Rattle.interval_domain.specs.declared.bounds.Interval.{Interval}
use Rattle.transfer_ranges.specs.declared.amounts.AmountRange.{AmountRange}
use Rattle.transfer_ranges.specs.declared.amounts.Receiver.{Receiver}
use Rattle.transfer_ranges.specs.Receivers.{HasRoomFor, receiver_of, counter, kept_units}
use Rattle.transfer_ranges.specs.Results.{IsLeastIfAny, IsKept}
use Rattle.transfer_ranges.specs.ResultRanges.{amount_units, fitted, result_range, count_range}
use Rattle.interval_domain.specs.Known.{KnownFits}
use Rattle.cell_steps.specs.OwnRanges.{picture_range, form_range}
use Rattle.cell_laws.proofs.ResultLaws.{Given}

-- ---- numbers of a picture

-- z is a number that so many digits hold, or its absolute value
abbrev InPicture : ℕ → Bool → ℤ → Type 0
InPicture digits signed z = ((picture_range digits signed).low ≤ℤ z) × (z ≤ℤ (picture_range digits signed).high)

signed_within : (n : ℕ) (w : ℤ) → unsigned_abs w < n → (neg_ℤ (pos (n - 1)) ≤ℤ w) × (w ≤ℤ pos (n - 1))
signed_within n w h = (omega (arith, ints, h), omega (arith, ints, h))

size_within : (n : ℕ) (w : ℤ) → unsigned_abs w < n → (pos 0 ≤ℤ pos (unsigned_abs w)) × (pos (unsigned_abs w) ≤ℤ pos (n - 1))
size_within n w h = (omega (arith, ints, h), omega (arith, ints, h))

pub kept_within : (digits : ℕ) (signed : Bool) (w : ℤ) → HasRoomFor digits w → InPicture digits signed (kept_units signed w)
kept_within digits true w h = signed_within (10 ^ digits) w h
kept_within digits false w h = size_within (10 ^ digits) w h

none_within : (n : ℕ) (w : ℤ) → HasRoomFor 0 w → InPicture n false (kept_units false w)
none_within n w h = (omega (arith, ints, h), zero_within (unsigned_abs w) (10 ^ n - 1) (omega (arith, h)))
  where
    zero_within : (k m : ℕ) → k ≡ 0 → pos k ≤ℤ pos m
    zero_within k m e = omega (arith, ints, e)

pub kept_in_form : (f : Form) (w : ℤ) → HasRoomFor (receiver_of f).digits w → ((form_range f).low ≤ℤ kept_units (receiver_of f).signed w) × (kept_units (receiver_of f).signed w ≤ℤ (form_range f).high)
kept_in_form form.Group w h = none_within 0 w h
kept_in_form (form.Text n) w h = none_within n w h
kept_in_form (form.Number digits scale signed kept) w h = kept_within digits signed w h
kept_in_form (form.Edited picture digits scale) w h = kept_within digits false w h

-- ---- what a receiver holds

-- what holds of each number that the receiver keeps holds of the ends of what is fitted
fitted_fits : (r : Receiver) (i : Interval) (own : Interval) (o : Option Interval) → IsLeastIfAny (IsKept r i) o
    → ((w : ℤ) → HasRoomFor r.digits w → (own.low ≤ℤ kept_units r.signed w) × (kept_units r.signed w ≤ℤ own.high)) → IfSome o (λ j. KnownFits own (Some j))
fitted_fits r i own None least within = tt
fitted_fits r i own (Some j) least within =
    let low = least.low_is_one in
    let high = least.high_is_one in
    let a = within low.0 low.1.1 in
    let b = within high.0 high.1.1 in
    let e = low.2 in
    let f = high.2 in
    (omega (arith, ints, a.0, e), (least.holds j.low low).1, omega (arith, ints, b.1, f))

module _ (given : Given) where
  pub form_fits : (f : Form) (i : Interval) → IfSome (fitted (receiver_of f) i) (λ j. KnownFits (form_range f) (Some j))
  form_fits f i = fitted_fits (receiver_of f) i (form_range f) (fitted (receiver_of f) i) (given.kept_ (receiver_of f) i) (kept_in_form f)

  pub count_fits : (i : Interval) → IfSome (count_range i) (λ j. KnownFits (picture_range 18 true) (Some j))
  count_fits i = fitted_fits counter i (picture_range 18 true) (fitted counter i) (given.kept_ counter i) (kept_within 18 true)

  pub result_fits : (mode : Mode) (f : Form) (a : AmountRange) → IfSome (result_range mode (receiver_of f) a) (λ j. KnownFits (form_range f) (Some j))
  result_fits mode f a = go (amount_units mode (receiver_of f).scale a)
    where
      go : (o : Option Interval) → IfSome (o >>= fitted (receiver_of f)) (λ j. KnownFits (form_range f) (Some j))
      go None = tt
      go (Some i) = form_fits f i
