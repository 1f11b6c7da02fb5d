-- Forms put together of their coefficients and their constant.
use Rattle.std.proofs.Common.{◌≡◌, ℕ, ◌<◌, List, ℤ, ◌+ℤ◌, ◌*ℤ◌, ◌≤ℤ◌, Option, Some, None, sym, ap, subst, ◌∙◌, arith}
use Rattle.std.specs.Prelude.{SomeIff, IfSome}
use Rattle.std.specs.Int.{int_max, int_min}
use Rattle.std.proofs.lemmas.Int.{ints, clamps}
use Rattle.interval_domain.specs.declared.bounds.Interval.{Interval}
use Rattle.interval_domain.specs.Bounds.{IsSmall}
use Rattle.interval_domain.specs.Corners.{span}
use Rattle.interval_domain.proofs.IntervalEnds.{min_is_one, max_is_one}
use Rattle.diff_bounds.specs.declared.form.lin.Lin.{Lin}
use Rattle.diff_bounds.specs.Forms.{coefs_of, form_of, together, AreSmallCoefs, IsSmallConstant, IsSmallForm}
use Rattle.diff_bounds.specs.Results.{scaled_coefs, scaled_constant, multiple_of}
use Rattle.diff_bounds.proofs.Coefs.{coef-coefs_of}

abbrev form : List ℤ → Interval → Lin
form xs i = record { coefs = xs; constant = i }

pub nothing : {X : Type 0} (o : Option X) (P : Type 0) (v : X) → o ≡ None → (P → ⊥) → SomeIff o P v
nothing o P v e h = subst (λ r. SomeIff r P v) (sym e) h

small_coefs : (c : ℕ → ℤ) (i : Interval) → IsSmallForm (form_of c i) → AreSmallCoefs c
small_coefs c i is = record { small = λ k h. subst (λ z. IsSmall z) (coef-coefs_of c k h) (is.coefs.small k h) }

small_form : (c : ℕ → ℤ) (i : Interval) → AreSmallCoefs c → IsSmallConstant i → IsSmallForm (form_of c i)
small_form c i coefs constant = record {
  coefs = record { small = λ k h. subst (λ z. IsSmall z) (sym (coef-coefs_of c k h)) (coefs.small k h) };
  constant = constant;
}

-- what is put together is the form exactly where its numbers are small
small_together : (c : ℕ → ℤ) (i : Interval) (o : Option (List ℤ)) (p : Option Interval) → SomeIff o (AreSmallCoefs c) (coefs_of c) → SomeIff p (IsSmallConstant i) i → SomeIff (together o p) (IsSmallForm (form_of c i)) (form_of c i)
small_together c i (Some xs) (Some j) (coefs, e) (constant, f) = (small_form c i coefs constant, ap (λ (ys : List ℤ). form ys j) e ∙ ap (λ (k : Interval). form (coefs_of c) k) f)
small_together c i (Some xs) None coefs refused = λ is. refused is.constant
small_together c i None p refused constant = λ is. refused (small_coefs c i is)

pub put_together_is : (c : ℕ → ℤ) (i : Interval) (o : Option (List ℤ)) (p : Option Interval) (r : Option Lin) → r ≡ together o p → SomeIff o (AreSmallCoefs c) (coefs_of c) → SomeIff p (IsSmallConstant i) i → SomeIff r (IsSmallForm (form_of c i)) (form_of c i)
put_together_is c i o p r e coefs constant = subst (λ q. SomeIff q (IsSmallForm (form_of c i)) (form_of c i)) (sym e) (small_together c i o p coefs constant)

-- what holds of the form holds of the one that is there
pub holds_of_some : (P : Lin → Type 0) (Q : Type 0) (f : Lin) (r : Option Lin) → SomeIff r Q f → P f → IfSome r P
holds_of_some P Q f (Some g) (q, e) h = subst P (sym e) h
holds_of_some P Q f None refused h = tt

-- ---- numbers that are written in another way
pub sum_along : (x y a b : ℤ) (o : Option ℤ) → a ≡ x → b ≡ y → SomeIff o (IsSmall (a +ℤ b)) (a +ℤ b) → SomeIff o (IsSmall (x +ℤ y)) (x +ℤ y)
sum_along x y a b o e f is = subst (λ t. SomeIff o (IsSmall (x +ℤ t)) (x +ℤ t)) f (subst (λ t. SomeIff o (IsSmall (t +ℤ b)) (t +ℤ b)) e is)

pub product_along : (x y a b : ℤ) (o : Option ℤ) → a ≡ x → b ≡ y → SomeIff o (IsSmall (a *ℤ b)) (a *ℤ b) → SomeIff o (IsSmall (x *ℤ y)) (x *ℤ y)
product_along x y a b o e f is = subst (λ t. SomeIff o (IsSmall (x *ℤ t)) (x *ℤ t)) f (subst (λ t. SomeIff o (IsSmall (t *ℤ b)) (t *ℤ b)) e is)

pub multiple_is : (a : Lin) (y by : ℤ) (o : Option (List ℤ)) (p : Option Interval) (r : Option Lin) → y ≡ by → r ≡ together o p → SomeIff o (AreSmallCoefs (scaled_coefs a y)) (coefs_of (scaled_coefs a y)) → SomeIff p (IsSmallConstant (scaled_constant a.constant y)) (scaled_constant a.constant y) → SomeIff r (IsSmallForm (multiple_of a by)) (multiple_of a by)
multiple_is a y by o p r e f coefs constant =
    subst (λ t. SomeIff r (IsSmallForm (multiple_of a t)) (multiple_of a t)) e (put_together_is (scaled_coefs a y) (scaled_constant a.constant y) o p r f coefs constant)

-- ---- the constant's ends
pub ends_small : (x y : ℤ) → IsSmall x → IsSmall y → IsSmallConstant (span x y)
ends_small x y h k = record { low = min_is_one (λ z. IsSmall z) x y h k; high = max_is_one (λ z. IsSmall z) x y h k }

pub span_from : (r : Interval) (one other x y : ℤ) → r ≡ span one other → one ≡ x → other ≡ y → r ≡ span x y
span_from r one other x y e f g =
    let interval_of : ℤ → ℤ → Interval = λ p q. span p q in
    e ∙ ap (λ (p : ℤ). interval_of p other) f ∙ ap (λ (q : ℤ). interval_of x q) g

pub ends_ordered : (x y : ℤ) → int_min x y ≤ℤ int_max x y
ends_ordered x y = omega (arith, ints, clamps)
