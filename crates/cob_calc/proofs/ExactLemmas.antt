-- Exact values at a receiver's scale.
use Rattle.std.proofs.Common.{◌≡◌, ℕ, ◌+◌, ◌-◌, ◌^◌, ◌<◌, ◌≤◌, nat_lt, ℤ, pos, true, false, Option, Some, None, refl, sym, ap, subst, ◌∙◌, arith}
use Rattle.std.specs.Prelude.{unsigned_abs, ◌-ℤ◌, ◌≢◌}
use Rattle.std.proofs.lemmas.Bool.{lt-ltb}
use Rattle.std.proofs.lemmas.Bool.Decides.{nat_tests}
use Rattle.dec_num.specs.declared.types.Mode.{Mode}
use Rattle.dec_num.specs.declared.types.Scaled.{Scaled}
use Rattle.dec_num.specs.Exact.{near, ratio_of}
use Rattle.dec_num.proofs.Powers.{ten_monotone}
use Rattle.dec_num.proofs.Shifting.{near_shift}
use Rattle.cob_program.specs.Values.{exact_quotient}
use Rattle.cob_calc.proofs.NumberLemmas.{not_zero}
use Rattle.cob_calc.specs.Exact.{quotient_if, held, units_held, fraction_of}
use Rattle.cob_calc.specs.declared.exact.Exact.TheVariants as exact

-- ---- units that digits hold

below_limit : (n m : ℕ) → n < m → nat_lt n m ≡ true
below_limit n m h = lt-ltb n m h

above_limit : (n m : ℕ) → m ≤ n → nat_lt n m ≡ false
above_limit n m h = grind (arith, nat_tests)

pub is_held : (digits : ℕ) (z : ℤ) → unsigned_abs z < 10 ^ digits → Some z ≡ held digits z
is_held digits z h = rw (below_limit (unsigned_abs z) (10 ^ digits) h) refl

pub is_not_held : (digits : ℕ) (z : ℤ) → 10 ^ digits ≤ unsigned_abs z → None ≡ held digits z
is_not_held digits z h = rw (above_limit (unsigned_abs z) (10 ^ digits) h) refl

pub ruleset holding = (is_held, is_not_held)

-- ---- an exact quotient

pub exact_is : (n d : Scaled) → d.units ≢ pos 0 → exact_quotient n d ≡ Some (fraction_of (exact.Quotient n d))
exact_is n d h = rw (not_zero d.units h) refl

pub no_exact : (n d : Scaled) → d.units ≡ pos 0 → exact_quotient n d ≡ None
no_exact n d e = rw e refl

pub quotient_is_there : (n d : Scaled) → d.units ≢ pos 0 → quotient_if n d ≡ Some (exact.Quotient n d)
quotient_is_there n d h = rw (not_zero d.units h) refl

pub no_quotient_there : (n d : Scaled) → d.units ≡ pos 0 → quotient_if n d ≡ None
no_quotient_there n d e = rw e refl

pub ruleset quotients = (exact_is, no_exact, quotient_is_there, no_quotient_there)

-- ---- what the calls need

pub quotient_units : (digits scale : ℕ) (mode : Mode) (n d : Scaled) (x : exact.the_data) (up q : ℤ) (r : Option ℤ) → x ≡ exact.Quotient n d → up ≡ pos (scale + d.scale) -ℤ pos n.scale →
    q ≡ near mode (ratio_of n.units d.units) up → r ≡ held digits q → r ≡ units_held digits scale mode (fraction_of x)
quotient_units digits scale mode n d x up q r ex eu eq er =
    er ∙ ap (held digits) (eq ∙ sym (near_shift mode n.units d.units scale d.scale n.scale up eu)) ∙ ap (λ y. units_held digits scale mode (fraction_of y)) (sym ex)

pub quotient_over : (digits scale : ℕ) (mode : Mode) (n d : Scaled) (x : exact.the_data) (up : ℤ) → digits ≤ 18 → x ≡ exact.Quotient n d → up ≡ pos (scale + d.scale) -ℤ pos n.scale →
    10 ^ 37 ≤ unsigned_abs (near mode (ratio_of n.units d.units) up) → None ≡ units_held digits scale mode (fraction_of x)
quotient_over digits scale mode n d x up few ex eu over =
    is_not_held digits (near mode (ratio_of n.units d.units) up) (omega (arith, over, ten_monotone digits 18 few))
    ∙ ap (held digits) (sym (near_shift mode n.units d.units scale d.scale n.scale up eu)) ∙ ap (λ y. units_held digits scale mode (fraction_of y)) (sym ex)

-- the same of units that are passed on as machine words
pub quotient_units_of : (digits scale : ℕ) (mode : Mode) (n d : Scaled) (x : exact.the_data) (up q nu du u p : ℤ) (r : Option ℤ) → x ≡ exact.Quotient n d → up ≡ pos (scale + d.scale) -ℤ pos n.scale →
    nu ≡ n.units → du ≡ d.units → u ≡ up → p ≡ q → q ≡ near mode (ratio_of nu du) u → r ≡ held digits p → r ≡ units_held digits scale mode (fraction_of x)
quotient_units_of digits scale mode n d x up q nu du u p r ex eup en ed eu ep eq er =
    quotient_units digits scale mode n d x up q r ex eup (subst (λ y. q ≡ near mode (ratio_of n.units d.units) y) eu (subst (λ y. q ≡ near mode (ratio_of n.units y) u) ed (subst (λ y. q ≡ near mode (ratio_of y du) u) en eq))) (er ∙ ap (held digits) ep)

pub quotient_over_of : (digits scale : ℕ) (mode : Mode) (n d : Scaled) (x : exact.the_data) (up nu du u : ℤ) → digits ≤ 18 → x ≡ exact.Quotient n d → up ≡ pos (scale + d.scale) -ℤ pos n.scale →
    nu ≡ n.units → du ≡ d.units → u ≡ up → 10 ^ 37 ≤ unsigned_abs (near mode (ratio_of nu du) u) → None ≡ units_held digits scale mode (fraction_of x)
quotient_over_of digits scale mode n d x up nu du u few ex eup en ed eu over =
    let P : ℤ → ℤ → ℤ → Type 0 = λ (a b y : ℤ). 10 ^ 37 ≤ unsigned_abs (near mode (ratio_of a b) y) in
    quotient_over digits scale mode n d x up few ex eup (subst (λ y. P n.units d.units y) eu (subst (λ y. P n.units y u) ed (subst (λ y. P y du u) en over)))

pub ruleset storing = (is_held, is_not_held)
