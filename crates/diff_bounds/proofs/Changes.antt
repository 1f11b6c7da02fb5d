-- Forms with one or two coefficients changed.
use Rattle.std.proofs.Common.{◌≡◌, ℕ, zero, suc, ◌-◌, ◌<◌, ◌≤◌, true, List, length, get_or, set, ℤ, pos, negsuc, ◌-ℤ◌, ◌≤ℤ◌, ◌⊎◌, inl, inr, refl, sym, ap, subst, ◌∙◌, arith}
use Rattle.std.proofs.lemmas.Int.{ints, clamps}
use Rattle.std.proofs.lemmas.Bool.{cases_eq, eq-eqb, ne_eqb}
use Rattle.std.proofs.lemmas.List.{get_or-set_other}
use Rattle.std.proofs.lemmas.Grind.{get_or-set_at}
use Rattle.interval_domain.specs.Bounds.{IsSmall}
use Rattle.diff_bounds.specs.declared.form.lin.Lin.{Lin}
use Rattle.diff_bounds.specs.Forms.{coef, is_small, IsSmallConstant, IsSmallForm}
use Rattle.diff_bounds.specs.Results.{multiple_of, scaled_coefs}
use Rattle.diff_bounds.proofs.Coefs.{coef-coefs_of}
use Rattle.diff_bounds.specs.Upper.{coef_at}
use Rattle.diff_bounds.specs.Assigned.{less_place}
use Rattle.diff_bounds.specs.Changed.{IsSet, IsChanged}
use Rattle.diff_bounds.proofs.Same.{minus_one}

-- ---- one coefficient
set_same : (coefs : List ℤ) (place k : ℕ) (x : ℤ) → 0 < place → place ≤ length coefs → k ≡ place → coef_at (set coefs (place - 1) x) k ≡ x
set_same coefs place k x h l e = get_or-set_at coefs (place - 1) (k - 1) x (pos 0) (ap (λ (i : ℕ). i - 1) e) (omega arith)

set_other : (coefs : List ℤ) (place k : ℕ) (x : ℤ) → 0 < place → 0 < k → (k ≡ place → ⊥) → coef_at (set coefs (place - 1) x) k ≡ coef_at coefs k
set_other coefs place k x h l ne = get_or-set_other coefs (place - 1) (k - 1) x (pos 0) (λ e. ne (omega arith))

small_at : (form : Lin) (k : ℕ) → 0 < k → k ≤ 8 → IsSmallForm form → IsSmall (coef_at form.coefs k)
small_at form k h l small = small.coefs.small (k - 1) (omega arith)

small_set : (form changed : Lin) (place : ℕ) (x : ℤ) → 0 < place → place ≤ 8 → IsSet form changed place x → IsSmallForm form → IsSmall x → IsSmallForm changed
small_set form changed place x h l is small one = record {
  coefs = record {
    small = λ k lt. subst (λ (coefs : List ℤ). IsSmall (get_or coefs k (pos 0))) (sym is.coefs_)
        (elim (cases_eq k (place - 1)) as (λ _. IsSmall (get_or (set form.coefs (place - 1) x) k (pos 0))) [
          | inl e ↦ subst (λ (z : ℤ). IsSmall z) (sym (get_or-set_at form.coefs (place - 1) k x (pos 0) e (omega (arith, is.width)))) one
          | inr ne ↦ subst (λ (z : ℤ). IsSmall z) (sym (get_or-set_other form.coefs (place - 1) k x (pos 0) ne)) (small.coefs.small k lt)
        ]);
  };
  constant = subst (λ i. IsSmallConstant i) (sym is.constant) small.constant;
}

-- ---- less a value
less_at : (j : ℕ) (c : ℕ → ℤ) (k : ℕ) → k ≡ suc j → less_place (suc j) c k ≡ c k -ℤ pos 1
less_at j c k e = rw (eq-eqb k (suc j) e) refl

less_other : (j : ℕ) (c : ℕ → ℤ) (k : ℕ) → (k ≡ suc j → ⊥) → less_place (suc j) c k ≡ c k
less_other j c k ne = rw (ne_eqb k (suc j) ne) refl

small_true : (z : ℤ) → is_small z ≡ true → IsSmall z
small_true z e = grind (arith, ints)

pub less_nothing : (form : Lin) → IsSmallForm form → IsChanged (less_place 0 (coef_at form.coefs)) form form
less_nothing form small = record { coefs_ = λ k h l. refl; constant = refl; small = small }

pub less_one : (form changed : Lin) (place : ℕ) (x : ℤ) → 0 < place → place ≤ 8 → IsSmallForm form → is_small (less_place place (coef_at form.coefs) place) ≡ true → IsSet form changed place x → x ≡ coef_at form.coefs place -ℤ pos 1 → IsChanged (less_place place (coef_at form.coefs)) form changed
less_one form changed zero x h l small fits is e = absurd (omega arith)
less_one form changed (suc j) x h l small fits is e = record {
  coefs_ = λ k g m. ap (λ (coefs : List ℤ). coef_at coefs k) is.coefs_ ∙ at k g (cases_eq k (suc j));
  constant = is.constant;
  small = small_set form changed (suc j) x h l is small (subst (λ (z : ℤ). IsSmall z) (less_at j (coef_at form.coefs) (suc j) refl ∙ sym e) (small_true (less_place (suc j) (coef_at form.coefs) (suc j)) fits));
}
  where
    at : (k : ℕ) → 0 < k → (k ≡ suc j) ⊎ (k ≡ suc j → ⊥) → coef_at (set form.coefs (suc j - 1) x) k ≡ less_place (suc j) (coef_at form.coefs) k
    at k g (inl same) = set_same form.coefs (suc j) k x h (omega (arith, is.width)) same ∙ e ∙ ap (λ (i : ℕ). coef_at form.coefs i -ℤ pos 1) (sym same) ∙ sym (less_at j (coef_at form.coefs) k same)
    at k g (inr ne) = set_other form.coefs (suc j) k x h g ne ∙ sym (less_other j (coef_at form.coefs) k ne)

-- ---- times -1
pub negated_small : (form : Lin) → form.constant.low ≤ℤ form.constant.high → IsSmallForm form → IsSmallForm (multiple_of form (negsuc 0))
negated_small form ordered small =
    let low = minus_one form.constant.low in let high = minus_one form.constant.high in
    let x = small.constant.low in let y = small.constant.high in record {
      coefs = record {
        small = λ k lt. subst (λ (z : ℤ). IsSmall z) (sym (coef-coefs_of (scaled_coefs form (negsuc 0)) k lt ∙ minus_one (coef form k))) (let s = small.coefs.small k lt in omega (arith, ints, s));
      };
      constant = record { low = omega (arith, ints, clamps, low, high, x, y); high = omega (arith, ints, clamps, low, high, x, y) };
    }
