-- Bounds of forms over matrices that are lists of words.
use Rattle.std.proofs.Common.{◌≡◌, ℕ, zero, suc, ◌+◌, ◌-◌, ◌*◌, ◌<◌, ◌≤◌, List, length, get_or, ℤ, pos, ◌+ℤ◌, ◌*ℤ◌, ◌≤ℤ◌, Option, Some, None, inl, inr, refl, sym, ap, subst, ◌∙◌, arith}
use Rattle.std.proofs.lemmas.Int.{ints}
use Rattle.std.proofs.lemmas.Bool.{cases_eq}
use Rattle.interval_domain.specs.Bounds.{Holds}
use Rattle.diff_bounds.specs.declared.form.lin.Lin.{Lin}
use Rattle.diff_bounds.specs.Forms.{coef, dot}
use Rattle.diff_bounds.specs.Results.{IsNarrower}
use Rattle.diff_bounds.specs.Matrix.{word, IsMatrix}
use Rattle.diff_bounds.specs.Order.{IsAtMost}
use Rattle.diff_bounds.specs.Storages.{StandsIn}
use Rattle.diff_bounds.proofs.Places.{place_fits}
use Rattle.diff_bounds.specs.Numbers.{IsAbove, IsUnder}
use Rattle.diff_bounds.specs.Upper.{upper, coef_at, upper_of}
use Rattle.diff_bounds.specs.Values.{worths, total, values_in, IsOver, AreLower}
use Rattle.diff_bounds.proofs.Sound.{upper_above}
use Rattle.diff_bounds.proofs.Mono.{upper_under}

total_is : (form : Lin) (v : ℕ → ℤ) (n : ℕ) → total (coef_at form.coefs) v n ≡ dot (coef form) (λ k. v (suc k)) n
unfolding dot
total_is form v zero = refl
total_is form v (suc n) =
    let back : suc n - 1 ≡ n = omega arith in
    let here : coef_at form.coefs (suc n) *ℤ v (suc n) ≡ coef form n *ℤ v (suc n) = ap (λ (k : ℕ). get_or form.coefs k (pos 0) *ℤ v (suc n)) back in
    omega (arith, ints, total_is form v n, here)

-- coefficients that are 0 add nothing
more_cells : (c v : ℕ → ℤ) (size n : ℕ) → size ≤ n → ((k : ℕ) → size ≤ k → k < n → c k ≡ pos 0) → dot c v n ≡ dot c v size
unfolding dot
more_cells c v size zero h beyond = let e : size ≡ 0 = omega arith in subst (λ (k : ℕ). dot c v 0 ≡ dot c v k) (sym e) refl
more_cells c v size (suc n) h beyond =
    elim (cases_eq size (suc n)) as (λ _. dot c v (suc n) ≡ dot c v size) [
      | inl e ↦ subst (λ (k : ℕ). dot c v (suc n) ≡ dot c v k) (sym e) refl
      | inr ne ↦
          let nothing : c n *ℤ v n ≡ pos 0 = ap (λ (z : ℤ). z *ℤ v n) (beyond n (omega arith) (omega arith)) ∙ zero_times (v n) in
          omega (arith, ints, more_cells c v size n (omega arith) (λ k l m. beyond k l (omega arith)), nothing)
    ]
  where
    zero_times : (z : ℤ) → pos 0 *ℤ z ≡ pos 0
    zero_times z = omega (arith, ints)

all_cells : (form : Lin) (v : ℕ → ℤ) (size : ℕ) → size ≤ 8 → IsOver size form → dot (coef form) v 8 ≡ dot (coef form) v size
all_cells form v size few is = more_cells (coef form) v size 8 few is.beyond

-- the coefficients times the values, as a form adds them up
pub total_of_form : (size : ℕ) (form : Lin) (cells : ℕ → Option ℤ) → size ≤ 8 → IsOver size form → dot (coef form) (λ k. worths cells (suc k)) 8 ≡ total (coef_at form.coefs) (worths cells) size
total_of_form size form cells few is = all_cells form (λ k. worths cells (suc k)) size few is ∙ sym (total_is form (worths cells) size)

above_less : (t s : ℤ) (o : Option ℤ) → t ≤ℤ s → IsAbove s o → IsAbove t o
above_less t s (Some u) h k = omega (arith, ints, k)
above_less t s None h k = tt

pub form_above : (size : ℕ) (m : List ℤ) (cells : ℕ → Option ℤ) (form : Lin) (z : ℤ) → size ≤ 8 → IsOver size form → StandsIn (size + 1) (word (size + 1) m) cells → Holds (values_in form cells) z → IsAbove z (upper_of size m form)
form_above size m cells form z few is stands (low, high) =
    let same = total_of_form size form cells few is in
    above_less z (total (coef_at form.coefs) (worths cells) size +ℤ form.constant.high) (upper_of size m form)
    (omega (arith, ints, high, same))
    (upper_above size (word (size + 1) m) cells stands (coef_at form.coefs) form.constant.high)

pub lower_words : (size : ℕ) (a b : List ℤ) → IsMatrix size a → IsAtMost a b → AreLower (size + 1) (word (size + 1) a) (word (size + 1) b)
lower_words size a b is lower = record { words = λ i j h g. lower.words (i * (size + 1) + j) (omega (arith, is.width, place_fits (size + 1) i j h g)) }

pub form_under : (size : ℕ) (a b : List ℤ) (f g : Lin) → IsMatrix size a → IsAtMost a b → IsNarrower f g → IsUnder (upper_of size a f) (upper_of size b g)
form_under size a b f g is lower narrower =
    let less = upper_under size (word (size + 1) a) (word (size + 1) b) (lower_words size a b is lower) (coef_at f.coefs) f.constant.high g.constant.high narrower.high in
    subst (λ (coefs : List ℤ). IsUnder (upper_of size a f) (upper (word (size + 1) b) (coef_at coefs) g.constant.high size)) narrower.coefs less
