-- Numbers of so many digits, and their ends.
use Rattle.std.proofs.Common.{◌≡◌, ◌≤◌, ◌<◌, ℕ, ◌-◌, ◌^◌, ◌&&◌, ◌∙◌, Bool, true, pos, arith, sym, ap, ⊎_elim}
use Rattle.std.specs.Prelude.{nat_le, ◌-ℤ◌}
use Rattle.std.proofs.lemmas.Int.{ints}
use Rattle.std.proofs.lemmas.Bool.{cases_lt, le-leb, leb-true, lt-leb}
use Rattle.dec_num.proofs.Powers.{ten_positive, ten_monotone}
use Rattle.cob_program.specs.Bounds.{of_digits, is_small}
use Rattle.cob_program.proofs.Steps.{both}

digits_tested : (n : ℕ) → nat_le (10 ^ n - 1) (10 ^ 37 - 1) ≡ nat_le n 37
digits_tested n =
    ⊎_elim (λ (few : n < 38).
    let p = ten_monotone n 37 (omega (arith, few)) in
    le-leb (10 ^ n - 1) (10 ^ 37 - 1) (omega (arith, p)) ∙ sym (le-leb n 37 (omega (arith, few))))
    (λ (many : 38 ≤ n).
    let p = ten_monotone 38 n many in
    lt-leb (10 ^ n - 1) (10 ^ 37 - 1) (omega (arith, p)) ∙ sym (lt-leb n 37 (omega (arith, many)))) (cases_lt n 38)

pub small_digits : (n scale : ℕ) → is_small (of_digits n scale) ≡ (nat_le n 37 && nat_le scale 37)
small_digits n scale = ap (λ t. t && nat_le scale 37) (digits_tested n)

pub few_digits : (n scale : ℕ) (t : Bool) → t ≡ is_small (of_digits n scale) → t ≡ true → n ≤ 37
few_digits n scale t e f =
    leb-true n 37 (both (nat_le n 37) (nat_le scale 37) (sym (small_digits n scale) ∙ (sym e ∙ f))).0

pub less_one : (n : ℕ) → pos (10 ^ n) -ℤ pos 1 ≡ pos (10 ^ n - 1)
less_one n = let some = ten_positive n in omega (arith, ints, some)
