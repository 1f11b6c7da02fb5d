-- Forms that are changed are forms over the cells of the same pack.
use Rattle.std.proofs.Common.{◌≡◌, ℕ, List, ℤ, pos, ◌+ℤ◌, ◌*ℤ◌, ◌≤ℤ◌, Option, Some, None, sym, ap, subst, ◌∙◌}
use Rattle.std.specs.Prelude.{SomeIff, IfSome}
use Rattle.std.proofs.Math.IntN.{zero-*ℤ}
use Rattle.interval_domain.specs.declared.bounds.Interval.{Interval}
use Rattle.diff_bounds.specs.declared.form.lin.Lin.{Lin}
use Rattle.diff_bounds.specs.Forms.{coef, IsSmallForm}
use Rattle.diff_bounds.specs.Results.{added_coefs, scaled_coefs, sum_of, multiple_of}
use Rattle.diff_bounds.proofs.Coefs.{coef-coefs_of}
use Rattle.diff_bounds.specs.Values.{IsOver}
use Rattle.sum_forms.specs.Constants.{constant_form}
use Rattle.sum_forms.proofs.Working.{nones, none_coefs}
use Rattle.diff_layer.specs.Forms.{IsFormOf}

pub constant_is : (i : Interval) → record { coefs = nones; constant = i } ≡ constant_form i
constant_is i = ap (λ (xs : List ℤ). with_constant xs) none_coefs
  where
    with_constant : List ℤ → Lin
    with_constant xs = record { coefs = xs; constant = i }

over_multiple : (size : ℕ) (form : Lin) (by : ℤ) → IsOver size form → IsOver size (multiple_of form by)
over_multiple size form by over = record {
  beyond = λ k h l. coef-coefs_of (scaled_coefs form by) k l ∙ ap (λ (x : ℤ). x *ℤ by) (over.beyond k h l) ∙ zero-*ℤ by;
}

over_sum : (size : ℕ) (form : Lin) (i : Interval) → IsOver size form → IsOver size (sum_of form (constant_form i))
over_sum size form i over = record {
  beyond = λ k h l.
      coef-coefs_of (added_coefs form (constant_form i)) k l ∙ ap (λ (x : ℤ). x +ℤ coef (constant_form i) k) (over.beyond k h l)
      ∙ ap (λ (x : ℤ). pos 0 +ℤ x) (coef-coefs_of (λ _. pos 0) k l);
}

-- a small form that is there
there : (size : ℕ) (f : Lin) (o : Option Lin) → SomeIff o (IsSmallForm f) f → IfSome o (λ g. g.constant.low ≤ℤ g.constant.high) → IsOver size f → IfSome o (IsFormOf size)
there size f None is ordered over = tt
there size f (Some g) (small, same) ordered over = record {
  small = subst (λ (h : Lin). IsSmallForm h) (sym same) small;
  ordered = ordered;
  over = subst (λ (h : Lin). IsOver size h) (sym same) over;
}

pub multiple_of_pack : (size : ℕ) (form : Lin) (by : ℤ) (o : Option Lin) → SomeIff o (IsSmallForm (multiple_of form by)) (multiple_of form by) → IfSome o (λ g. g.constant.low ≤ℤ g.constant.high) → IsOver size form → IfSome o (IsFormOf size)
multiple_of_pack size form by o is ordered over = there size (multiple_of form by) o is ordered (over_multiple size form by over)

pub sum_of_pack : (size : ℕ) (form added : Lin) (i : Interval) (o : Option Lin) → added ≡ constant_form i → SomeIff o (IsSmallForm (sum_of form added)) (sum_of form added) → IfSome o (λ g. g.constant.low ≤ℤ g.constant.high) → IsOver size form → IfSome o (IsFormOf size)
sum_of_pack size form added i o e is ordered over =
    there size (sum_of form added) o is ordered (subst (λ (a : Lin). IsOver size (sum_of form a)) (sym e) (over_sum size form i over))
