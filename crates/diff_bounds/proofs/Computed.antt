-- What is there exactly where a form is small, as a value that computes.
use Rattle.std.proofs.Common.{◌≡◌, ◌⊎◌, inl, inr, ℕ, ◌^◌, ◌<◌, Bool, ◌&&◌, true, false, length, get_or, ℤ, pos, Option, Some, None, sym, ap, ◌∙◌, arith}
use Rattle.std.specs.Prelude.{SomeIff, unsigned_abs}
use Rattle.std.specs.List.{list_all}
use Rattle.std.proofs.lemmas.Bool.{cases_Bool, and_parts, and_from, ltb-true, lt-ltb, cond-true, cond-false}
use Rattle.std.proofs.lemmas.List.Sums.{AllPass-from_list_all, list_all-from_AllPass}
use Rattle.std.proofs.lemmas.List.Elements.{All-from_get_or}
use Rattle.interval_domain.specs.Bounds.{IsSmall}
use Rattle.diff_bounds.specs.declared.form.lin.Lin.{Lin}
use Rattle.diff_bounds.specs.Forms.{coef, IsSmallForm, is_small, if_small}

abbrev is_small_form : Lin → Bool
is_small_form f = is_small f.constant.low && (is_small f.constant.high && list_all is_small f.coefs)

passed : (z : ℤ) → IsSmall z → is_small z ≡ true
passed z h = lt-ltb (unsigned_abs z) (10 ^ 37) h

small_passed : (z : ℤ) → is_small z ≡ true → IsSmall z
small_passed z e = ltb-true (unsigned_abs z) (10 ^ 37) e

all_passed : (f : Lin) → length f.coefs ≡ 8 → IsSmallForm f → is_small_form f ≡ true
all_passed f e small =
    and_from (is_small f.constant.low) (is_small f.constant.high && list_all is_small f.coefs) (passed f.constant.low small.constant.low) (and_from (is_small f.constant.high) (list_all is_small f.coefs) (passed f.constant.high small.constant.high)
    (list_all-from_AllPass is_small f.coefs (All-from_get_or (λ z. is_small z ≡ true) f.coefs (pos 0) (λ k lt. passed (coef f k) (small.coefs.small k (omega arith))))))

form_passed : (f : Lin) → length f.coefs ≡ 8 → is_small_form f ≡ true → IsSmallForm f
form_passed f e all =
    let low = and_parts (is_small f.constant.low) (is_small f.constant.high && list_all is_small f.coefs) all in
    let high = and_parts (is_small f.constant.high) (list_all is_small f.coefs) low.1 in
    record {
      coefs = record { small = λ k lt. small_passed (coef f k) (AllPass-from_list_all is_small f.coefs high.1 k (pos 0) (omega arith)) };
      constant = record { low = small_passed f.constant.low low.0; high = small_passed f.constant.high high.0 };
    }

some_computed : (f : Lin) → is_small_form f ≡ true → Some f ≡ if_small f
unfolding if_small
some_computed f t = sym (cond-true (is_small_form f) (Some f) None t)

none_computed : (f : Lin) → is_small_form f ≡ false → None ≡ if_small f
unfolding if_small
none_computed f t = sym (cond-false (is_small_form f) (Some f) None t)

pub computed : (o : Option Lin) (f : Lin) → length f.coefs ≡ 8 → SomeIff o (IsSmallForm f) f → o ≡ if_small f
computed (Some g) f e (small, same) = ap Some same ∙ some_computed f (all_passed f e small)
computed None f e none = by_test (cases_Bool (is_small_form f))
  where
    by_test : (is_small_form f ≡ true) ⊎ (is_small_form f ≡ false) → None ≡ if_small f
    by_test (inl t) = absurd (none (form_passed f e t))
    by_test (inr t) = none_computed f t
