-- Bounds that are held up to a limit.
use Rattle.std.proofs.Common.{◌≡◌, ℕ, ◌+◌, ◌-◌, ◌*◌, ◌^◌, ◌<◌, ◌≤◌, zero, suc, min, max, Bool, true, false, ◌&&◌, Some, None, refl, sym, ap, ◌∙◌, arith, ⊎_elim}
use Rattle.std.specs.Prelude.{nat_le, is_some}
use Rattle.std.proofs.lemmas.Bool.{cases_lt}
use Rattle.std.proofs.lemmas.Bool.Decides.{nat_tests}
use Rattle.std.proofs.Math.Nat.{pow-le-pow_right, le-mul_of_pos_right, mul_comm}
use Rattle.cob_program.specs.Bounds.{Bound, of_digits, sum_bound, product_bound}
use Rattle.cob_typed_exprs.specs.Sizes.{capped, bound_if, if_small}

abbrev pub bound : ℕ → ℕ → Bound
bound most scale = record { most = most; scale = scale }

-- ---- small or not

too_great : (a : ℕ) → 10 ^ 37 ≤ a → nat_le a (10 ^ 37 - 1) ≡ false
too_great a h = grind (arith, nat_tests)

too_long : (s : ℕ) → 37 < s → nat_le s 37 ≡ false
too_long s h = grind (arith, nat_tests)

pub and_false : (x : Bool) → (x && false) ≡ false
and_false true = refl
and_false false = refl

pub great_none : (a s : ℕ) → 10 ^ 37 ≤ a → if_small (bound a s) ≡ None
great_none a s h = rw (too_great a h) refl

pub long_none : (a s : ℕ) → 37 < s → if_small (bound a s) ≡ None
long_none a s h = rw (too_long s h, and_false (nat_le a (10 ^ 37 - 1))) refl

pub small_same : (a b s : ℕ) → min a (10 ^ 37) ≡ min b (10 ^ 37) → if_small (bound a s) ≡ if_small (bound b s)
small_same a b s e =
    ⊎_elim (λ (low : a < 10 ^ 37). ap (λ x. if_small (bound x s)) (omega (arith, low, e)))
    (λ (high : 10 ^ 37 ≤ a). great_none a s high ∙ sym (great_none b s (omega (arith, high, e)))) (cases_lt a (10 ^ 37))

pub some_if : (b : Bool) (x y : Bound) → bound_if b x ≡ Some y → (b ≡ true) × (x ≡ y)
some_if true x y e = (refl, cc)
some_if false x y e = absurd cc

pub none_if : (b : Bool) (x : Bound) → bound_if b x ≡ None → b ≡ false
none_if true x e = absurd cc
none_if false x e = refl

pub is_some_if : (b : Bool) (x : Bound) → is_some (bound_if b x) ≡ b
is_some_if true x = refl
is_some_if false x = refl

-- ---- powers

pub great_power : (most by : ℕ) → 0 < most → 37 < by → 10 ^ 37 ≤ most * 10 ^ by
great_power most by some far =
    let p = pow-le-pow_right {n = 10} (omega arith) {i = 37} {j = by} (omega (arith, far)) in
    let q = le-mul_of_pos_right {m = most} (10 ^ by) some in
    omega (arith, p, q, mul_comm most (10 ^ by))

pub one_power : (by : ℕ) → 1 ≤ 10 ^ by
one_power by = pow-le-pow_right {n = 10} (omega arith) {i = 0} {j = by} (omega arith)

pub positive_power : (p by : ℕ) → p ≡ 10 ^ by → 0 < p
positive_power p by e = omega (arith, e, one_power by)

pub few_digits : (digits : ℕ) → digits ≤ 37 → 10 ^ digits ≤ 10 ^ 37
few_digits digits h = pow-le-pow_right {n = 10} (omega arith) {i = digits} {j = 37} h

pub many_digits : (digits : ℕ) → 37 < digits → 10 ^ 38 ≤ 10 ^ digits
many_digits digits h = pow-le-pow_right {n = 10} (omega arith) {i = 38} {j = digits} (omega (arith, h))

pub capped_digits : (digits scale : ℕ) → digits ≤ 37 → bound (10 ^ digits - 1) scale ≡ capped (of_digits digits scale)
capped_digits digits scale h = ap (λ m. bound m scale) (omega (arith, few_digits digits h))

pub capped_many : (digits scale : ℕ) → 37 < digits → bound (10 ^ 37) scale ≡ capped (of_digits digits scale)
capped_many digits scale h = ap (λ m. bound m scale) (omega (arith, many_digits digits h))

-- ---- what isn't below the limit, in sums and products

cap_product : (a b : ℕ) → min (min a (10 ^ 37) * b) (10 ^ 37) ≡ min (a * b) (10 ^ 37)
cap_product a zero = omega arith
cap_product a (suc b) =
    ⊎_elim (λ (low : a < 10 ^ 37). let e : min a (10 ^ 37) ≡ a = omega (arith, low) in ap (λ x. min (x * suc b) (10 ^ 37)) e)
    (λ (high : 10 ^ 37 ≤ a).
    let e : min a (10 ^ 37) ≡ 10 ^ 37 = omega (arith, high) in
    let p = le-mul_of_pos_right {m = suc b} a (omega arith) in
    ap (λ x. min (x * suc b) (10 ^ 37)) e ∙ omega (arith, p, high))
    (cases_lt a (10 ^ 37))

pub capped_sum : (a b : Bound) → if_small (sum_bound (capped a) b) ≡ if_small (sum_bound a b)
capped_sum a b =
    let j = max a.scale b.scale in
    small_same _ _ j (omega (arith, cap_product a.most (10 ^ (j - a.scale))))

pub capped_product : (a b : Bound) → if_small (product_bound (capped a) b) ≡ if_small (product_bound a b)
capped_product a b = small_same _ _ (a.scale + b.scale) (cap_product a.most b.most)
