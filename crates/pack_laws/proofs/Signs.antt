-- What is said to be known of a value that is stored is so.
use Rattle.std.proofs.Common.{◌≡◌, ℕ, suc, ◌+◌, ◌*◌, ◌^◌, ◌<◌, ◌≤◌, true, List, ℤ, pos, negsuc, ◌+ℤ◌, ◌*ℤ◌, ◌≤ℤ◌, Option, Some, None, inl, inr, ap, ◌∙◌, arith}
use Rattle.std.specs.Prelude.{IfSome, int_le}
use Rattle.std.proofs.lemmas.Int.{ints, clamps}
use Rattle.std.proofs.lemmas.Bool.{or_cases, leb-true}
use Rattle.dec_num.specs.declared.types.Scaled.{Scaled}
use Rattle.dec_num.proofs.Powers.{ten_positive}
use Rattle.cob_program.specs.Values.{◌>>=◌}
use Rattle.diff_bounds.specs.declared.form.lin.Lin.{Lin}
use Rattle.diff_bounds.specs.Forms.{coef, dot}
use Rattle.diff_bounds.specs.Results.{scaled_coefs, multiple_of}
use Rattle.diff_bounds.proofs.Coefs.{coef-coefs_of}
use Rattle.diff_bounds.proofs.Dots.{dot_of_multiples}
use Rattle.diff_bounds.specs.Matrix.{word}
use Rattle.diff_bounds.specs.Storages.{StandsIn}
use Rattle.diff_bounds.specs.Numbers.{IsAbove}
use Rattle.diff_bounds.specs.Upper.{upper_of}
use Rattle.diff_bounds.specs.Values.{worths, values_in, IsOver}
use Rattle.diff_bounds.proofs.Forms.{form_above}
use Rattle.sum_ranges.specs.declared.ranged.Ranged.{Ranged}
use Rattle.sum_ranges.specs.Ranged.{IsIn}
use Rattle.diff_bounds.specs.Errors.{AreSure}
use Rattle.diff_bounds.specs.Scales.{Spans}
use Rattle.diff_bounds.proofs.Scales.{times_cancel}
use Rattle.sum_forms.specs.SumForms.{turned_form}
use Rattle.sum_forms.proofs.Shows.{if_there}
use Rattle.diff_steps.specs.Stores.{is_low, upper_negated, known_of_range}
use Rattle.std.proofs.Math.IntN.{zero-*ℤ}

-- ---- signs of a value by those of an end

not_below : (x u : ℤ) (p t : ℕ) → 0 < t → pos 0 ≤ℤ x → (x *ℤ pos p) ≤ℤ (u *ℤ pos t) → pos 0 ≤ℤ u
not_below x u p t some h le = times_cancel (pos 0) u t some (at_least x p h (pos 0 *ℤ pos t) (u *ℤ pos t) (zero-*ℤ (pos t)) le)
  where
    product_above : (x : ℤ) (p : ℕ) → pos 0 ≤ℤ x → pos 0 ≤ℤ (x *ℤ pos p)
    product_above (pos a) p h = omega (arith, ints)
    product_above (negsuc a) p h = absurd (omega (arith, ints, h))

    at_least : (x : ℤ) (p : ℕ) → pos 0 ≤ℤ x → (y z : ℤ) → y ≡ pos 0 → (x *ℤ pos p) ≤ℤ z → y ≤ℤ z
    at_least x p h y z e le = let q = product_above x p h in omega (arith, ints, q, e, le)

pub not_above : (x u : ℤ) (p t : ℕ) → 0 < t → x ≤ℤ pos 0 → (u *ℤ pos t) ≤ℤ (x *ℤ pos p) → u ≤ℤ pos 0
not_above x u p t some h le = times_cancel u (pos 0) t some (at_most x p h (pos 0 *ℤ pos t) (u *ℤ pos t) (zero-*ℤ (pos t)) le)
  where
    product_below : (x : ℤ) (p : ℕ) → x ≤ℤ pos 0 → (x *ℤ pos p) ≤ℤ pos 0
    product_below (pos a) p h = let e : a ≡ 0 = omega (arith, ints, h) in let f : a * p ≡ 0 = ap (λ n. n * p) e ∙ omega arith in omega (arith, ints, f)
    product_below (negsuc a) p h = omega (arith, ints)

    at_most : (x : ℤ) (p : ℕ) → x ≤ℤ pos 0 → (y z : ℤ) → y ≡ pos 0 → z ≤ℤ (x *ℤ pos p) → z ≤ℤ y
    at_most x p h y z e le = let q = product_below x p h in omega (arith, ints, q, e, le)

-- a bound that isn't above 0
low_bound : (z : ℤ) (o : Option ℤ) → is_low o ≡ true → IsAbove z o → z ≤ℤ pos 0
low_bound z None e h = absurd cc
low_bound z (Some u) e h = let less : u ≤ℤ pos 0 = grind (arith, ints, e) in omega (arith, ints, h, less)

module _ (size : ℕ) (m : List ℤ) (cells : ℕ → Option ℤ) (few : size ≤ 8) (stands : StandsIn (size + 1) (word (size + 1) m) cells) (form : Lin) (over : IsOver size form) (v : Scaled) (f : ℕ) (spans : Spans (dot (coef form) (λ k. worths cells (suc k)) 8) form.constant v f) where
  sum : ℤ
  sum = dot (coef form) (λ k. worths cells (suc k)) 8

  ordered : form.constant.low ≤ℤ form.constant.high
  ordered =
      let least = spans.least in let most = spans.most in
      let ends : (dot (coef form) (λ k. worths cells (suc k)) 8 +ℤ form.constant.low) ≤ℤ (dot (coef form) (λ k. worths cells (suc k)) 8 +ℤ form.constant.high) = times_cancel _ _ (10 ^ v.scale) (ten_positive v.scale) (omega (arith, ints, least, most)) in
      omega (arith, ints, ends)

  low_by_form : is_low (upper_of size m form) ≡ true → v.units ≤ℤ pos 0
  low_by_form e =
      let z : ℤ = (values_in form cells).high in
      let above = form_above size m cells form (values_in form cells).high few over stands (let o = ordered in (omega (arith, ints, o), omega (arith, ints))) in
      not_above (values_in form cells).high v.units (10 ^ v.scale) (10 ^ f) (ten_positive f) (low_bound (values_in form cells).high (upper_of size m form) e above) spans.most

  turned_over : IsOver size (multiple_of form (negsuc 0))
  turned_over = record { beyond = λ k h l. coef-coefs_of (scaled_coefs form (negsuc 0)) k l ∙ ap (λ (x : ℤ). x *ℤ negsuc 0) (over.beyond k h l) }

  high_by_turned : is_low (upper_of size m (multiple_of form (negsuc 0))) ≡ true → pos 0 ≤ℤ v.units
  high_by_turned e =
      let g : Lin = multiple_of form (negsuc 0) in
      let turned = dot_of_multiples (coef form) (coef (multiple_of form (negsuc 0))) (λ k. worths cells (suc k)) (negsuc 0) 8 (λ k h. coef-coefs_of (scaled_coefs form (negsuc 0)) k h) in
      let above = form_above size m cells (multiple_of form (negsuc 0)) (values_in (multiple_of form (negsuc 0)) cells).high few turned_over stands (omega (arith, ints, clamps), omega (arith, ints)) in
      let least = low_bound (values_in (multiple_of form (negsuc 0)) cells).high (upper_of size m (multiple_of form (negsuc 0))) e above in
      not_below (values_in form cells).low v.units (10 ^ v.scale) (10 ^ f) (ten_positive f) (omega (arith, ints, clamps, turned, least)) spans.least

  high_by_form : is_low (upper_negated size m form) ≡ true → pos 0 ≤ℤ v.units
  high_by_form e = by_turned (turned_form true form) (if_there (λ g. is_low (upper_of size m g) ≡ true → pos 0 ≤ℤ v.units) (multiple_of form (negsuc 0)) high_by_turned) e
    where
      by_turned : (o : Option Lin) → IfSome o (λ g. is_low (upper_of size m g) ≡ true → pos 0 ≤ℤ v.units) → is_low (o >>= upper_of size m) ≡ true → pos 0 ≤ℤ v.units
      by_turned None h e = absurd cc
      by_turned (Some g) h e = h e

  pub known_is_sure : (to : ℕ) (r : Ranged) → IsIn v r → AreSure (known_of_range size m form to r) v to
  known_is_sure to r is = record {
    whole = λ e. let le = leb-true r.scale to e in let same = is.scale in omega (arith, le, same);
    not_negative = λ e. elim (or_cases (int_le (pos 0) r.units.low) (is_low (upper_negated size m form)) e) as (λ _. pos 0 ≤ℤ v.units) [
      | inl h ↦ let le : pos 0 ≤ℤ r.units.low = grind (arith, ints, h) in let low = is.held.0 in omega (arith, ints, le, low)
      | inr h ↦ high_by_form h
    ];
    not_positive = λ e. elim (or_cases (int_le r.units.high (pos 0)) (is_low (upper_of size m form)) e) as (λ _. v.units ≤ℤ pos 0) [
      | inl h ↦ let le : r.units.high ≤ℤ pos 0 = grind (arith, ints, h) in let high = is.held.1 in omega (arith, ints, le, high)
      | inr h ↦ low_by_form h
    ];
  }
