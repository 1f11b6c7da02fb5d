-- Whether numbers at other scales have few enough digits.
use Rattle.std.proofs.Common.{◌≡◌, ℕ, zero, suc, ◌+◌, ◌-◌, ◌*◌, ◌/◌, ◌^◌, ◌<◌, ◌≤◌, Bool, true, false, ℤ, pos, negsuc, neg_ℤ, ◌-ℤ◌, ◌*ℤ◌, ◌≤ℤ◌, Option, Some, inl, inr, sym, ap, ◌∙◌, arith}
use Rattle.std.specs.Prelude.{nat_lt, int_le, unsigned_abs}
use Rattle.std.proofs.lemmas.Int.{ints}
use Rattle.std.proofs.lemmas.Bool.{cases_lt, lt-ltb, le-ltb}
use Rattle.std.proofs.lemmas.Nat.{div_below, le-div}
use Rattle.dec_num.specs.declared.types.Mode.{Mode}
use Rattle.dec_num.specs.declared.types.Mode.TheVariants.{Trunc, Round}
use Rattle.dec_num.specs.Exact.{rounded}
use Rattle.dec_num.proofs.Powers.{ten_positive, ten_monotone, ten-add}
use Rattle.transfer_ranges.specs.declared.amounts.Receiver.{Receiver}
use Rattle.diff_steps.specs.Clearing.{high_fits, low_fits}

-- ---- the greatest quotient

int_le_true : (a b : ℕ) → a ≤ b → int_le (pos a) (pos b) ≡ true
int_le_true a b h = grind (arith, ints)

int_le_false : (a b : ℕ) → b < a → int_le (pos a) (pos b) ≡ false
int_le_false a b h = grind (arith, ints)

quotient_fits : (a b c : ℕ) → 0 < b → 0 < c → nat_lt a (c * b) ≡ int_le (pos (a / b)) (pos (c - 1))
quotient_fits a b c h k =
    elim (cases_lt a (c * b)) as (λ _. nat_lt a (c * b) ≡ int_le (pos (a / b)) (pos (c - 1))) [
      | inl lt ↦ let below = div_below a b c h lt in lt-ltb a (c * b) lt ∙ sym (int_le_true (a / b) (c - 1) (omega (arith, below, k)))
      | inr le ↦ let above = le-div c a b h le in le-ltb a (c * b) le ∙ sym (int_le_false (a / b) (c - 1) (omega (arith, above, k)))
    ]

trunc_fits : (r : Receiver) (f n : ℕ) → nat_lt (n * 10 ^ r.scale) (10 ^ (r.digits + f)) ≡ high_fits Trunc r f (Some (pos n))
trunc_fits r f n =
    ap (λ (x : ℕ). nat_lt (n * 10 ^ r.scale) x) (ten-add r.digits f)
    ∙ quotient_fits (n * 10 ^ r.scale) (10 ^ f) (10 ^ r.digits) (omega (arith, ten_positive f)) (omega (arith, ten_positive r.digits))

-- a half of the last place is added
half_added : (a b p q : ℕ) → b ≤ p → a + b ≡ q → nat_lt a (p - b) ≡ nat_lt q p
half_added a b p q h e =
    elim (cases_lt q p) as (λ _. nat_lt a (p - b) ≡ nat_lt q p) [
      | inl lt ↦ lt-ltb a (p - b) (omega (arith, e, h, lt)) ∙ sym (lt-ltb q p lt)
      | inr le ↦ le-ltb a (p - b) (omega (arith, e, h, le)) ∙ sym (le-ltb q p le)
    ]

twice : (n t : ℕ) → (2 * n) * t ≡ 2 * (n * t)
twice n t = omega arith

double : (c b : ℕ) → c * (2 * b) ≡ 2 * (c * b)
double c b = omega arith

round_fits : (r : Receiver) (f n : ℕ) → nat_lt ((2 * n) * 10 ^ r.scale) (2 * 10 ^ (r.digits + f) - 10 ^ f) ≡ high_fits Round r f (Some (pos n))
round_fits r f n =
    let a = n * 10 ^ r.scale in
    let b = 10 ^ f in
    let c = 10 ^ r.digits in
    let some = ten_positive f in
    let more = ten_positive r.digits in
    let power : 10 ^ (r.digits + f) ≡ c * b = ten-add r.digits f in
    let least : b ≤ c * b = one_times c b more in
    ap (λ (x : ℕ). nat_lt ((2 * n) * 10 ^ r.scale) (2 * x - b)) power
    ∙ half_added ((2 * n) * 10 ^ r.scale) b (2 * (c * b)) (2 * a + b) (omega (arith, least)) (ap (λ (x : ℕ). x + b) (twice n (10 ^ r.scale)))
    ∙ ap (λ (x : ℕ). nat_lt (2 * a + b) x) (sym (double c b))
    ∙ quotient_fits (2 * a + b) (2 * b) c (omega (arith, some)) (omega (arith, more))
  where
    one_times : (c b : ℕ) → 1 ≤ c → b ≤ c * b
    one_times zero b h = absurd (omega arith)
    one_times (suc c) b h = omega arith

-- the bound of a cut number, with the numbers as they are passed on
pub trunc_along : (mode : Mode) (r : Receiver) (f : ℕ) (u x limit : ℤ) → mode ≡ Trunc → pos 0 ≤ℤ u → x ≡ u → limit ≡ pos (10 ^ (r.digits + f)) → nat_lt (unsigned_abs x * 10 ^ r.scale) (unsigned_abs limit) ≡ high_fits mode r f (Some u)
trunc_along mode r f (negsuc n) x limit is h e g = absurd (omega (arith, ints, h))
trunc_along mode r f (pos n) x limit is h e g =
    ap (λ (z : ℤ). nat_lt (unsigned_abs z * 10 ^ r.scale) (unsigned_abs limit)) e
    ∙ ap (λ (z : ℤ). nat_lt (n * 10 ^ r.scale) (unsigned_abs z)) g
    ∙ trunc_fits r f n ∙ ap (λ (m : Mode). high_fits m r f (Some (pos n))) (sym is)

less_abs : (a b : ℕ) → b ≤ a → unsigned_abs (pos a -ℤ pos b) ≡ a - b
less_abs a b h = omega (arith, ints, h)

pub round_along : (mode : Mode) (r : Receiver) (f : ℕ) (u x limit : ℤ) → mode ≡ Round → pos 0 ≤ℤ u → x ≡ pos 2 *ℤ u → limit ≡ (pos 2 *ℤ pos (10 ^ (r.digits + f)) -ℤ pos (10 ^ f)) → nat_lt (unsigned_abs x * 10 ^ r.scale) (unsigned_abs limit) ≡ high_fits mode r f (Some u)
round_along mode r f (negsuc n) x limit is h e g = absurd (omega (arith, ints, h))
round_along mode r f (pos n) x limit is h e g =
    let more = ten_monotone f (r.digits + f) (omega arith) in
    ap (λ (z : ℤ). nat_lt (unsigned_abs z * 10 ^ r.scale) (unsigned_abs limit)) e
    ∙ ap (λ (z : ℤ). nat_lt ((2 * n) * 10 ^ r.scale) (unsigned_abs z)) g
    ∙ ap (λ (z : ℕ). nat_lt ((2 * n) * 10 ^ r.scale) z) (less_abs (2 * 10 ^ (r.digits + f)) (10 ^ f) (omega (arith, more)))
    ∙ round_fits r f n ∙ ap (λ (m : Mode). high_fits m r f (Some (pos n))) (sym is)

-- ---- numbers that aren't above 0

small_quotient : (a b : ℕ) → a < b → a / b ≡ 0
small_quotient a b h = let below = div_below a b 1 (omega arith) (omega arith) in omega (arith, below)

zero_rounded : (mode : Mode) (b : ℕ) → 0 < b → rounded mode 0 b ≡ 0
zero_rounded Trunc b h = small_quotient 0 b h
zero_rounded Round b h = small_quotient (2 * 0 + b) (2 * b) (omega (arith, h))

not_above : (a b : ℕ) → int_le (neg_ℤ (pos a)) (pos b) ≡ true
not_above a b = grind (arith, ints)

pub low_is_held : (mode : Mode) (r : Receiver) (f : ℕ) (u : ℤ) → u ≤ℤ pos 0 → high_fits mode r f (Some u) ≡ true
low_is_held mode r f (pos zero) h =
    let nothing : 0 * 10 ^ r.scale ≡ 0 = omega arith in
    let e = ap (λ (n : ℕ). rounded mode n (10 ^ f)) nothing ∙ zero_rounded mode (10 ^ f) (omega (arith, ten_positive f)) in
    ap (λ (n : ℕ). int_le (pos n) (pos (10 ^ r.digits - 1))) e ∙ int_le_true 0 (10 ^ r.digits - 1) (omega arith)
low_is_held mode r f (pos (suc n)) h = absurd (omega (arith, ints, h))
low_is_held mode r f (negsuc n) h = not_above (rounded mode (suc n * 10 ^ r.scale) (10 ^ f)) (10 ^ r.digits - 1)

negated_order : (a b : ℕ) → int_le (neg_ℤ (pos a)) (neg_ℤ (pos b)) ≡ int_le (pos b) (pos a)
negated_order a b =
    elim (cases_lt a b) as (λ _. int_le (neg_ℤ (pos a)) (neg_ℤ (pos b)) ≡ int_le (pos b) (pos a)) [
      | inl lt ↦ grind (arith, ints)
      | inr le ↦ grind (arith, ints)
    ]

pub low_as_high : (mode : Mode) (r : Receiver) (f : ℕ) (u : ℤ) → low_fits mode r f (Some u) ≡ high_fits mode r f (Some u)
low_as_high mode r f (pos zero) =
    not_above (10 ^ r.digits - 1) (rounded mode (0 * 10 ^ r.scale) (10 ^ f)) ∙ sym (low_is_held mode r f (pos zero) (omega (arith, ints)))
low_as_high mode r f (pos (suc n)) = negated_order (10 ^ r.digits - 1) (rounded mode (suc n * 10 ^ r.scale) (10 ^ f))
low_as_high mode r f (negsuc n) =
    not_above (10 ^ r.digits - 1) (rounded mode (suc n * 10 ^ r.scale) (10 ^ f)) ∙ sym (low_is_held mode r f (negsuc n) (omega (arith, ints)))

-- ---- as they are passed on

pub powers_rise : (d f : ℕ) (x y : ℤ) → x ≡ pos (10 ^ f) → y ≡ pos (10 ^ (d + f)) → x ≤ℤ y
powers_rise d f x y e g = let more = ten_monotone f (d + f) (omega arith) in omega (arith, ints, e, g, more)

pub power_small : (d f : ℕ) (y : ℤ) → d ≤ 18 → f ≤ 18 → y ≡ pos (10 ^ (d + f)) → y ≤ℤ pos (10 ^ 36)
power_small d f y h k g = let more = ten_monotone (d + f) 36 (omega arith) in omega (arith, ints, g, more)

test_told : (x : ℤ) → int_le x (pos 0) ≡ true → x ≤ℤ pos 0
test_told x h = grind (arith, ints)

pub held_high : (mode : Mode) (r : Receiver) (f : ℕ) (bound : Option ℤ) (u x : ℤ) → bound ≡ Some u → x ≡ u → int_le x (pos 0) ≡ true → int_le x (pos 0) ≡ high_fits mode r f bound
held_high mode r f bound u x is e h =
    let low = test_told x h in
    h ∙ sym (low_is_held mode r f u (omega (arith, ints, e, low))) ∙ ap (λ (o : Option ℤ). high_fits mode r f o) (sym is)

pub held_low : (mode : Mode) (r : Receiver) (f : ℕ) (bound : Option ℤ) (u x : ℤ) → bound ≡ Some u → x ≡ u → int_le x (pos 0) ≡ true → int_le x (pos 0) ≡ low_fits mode r f bound
held_low mode r f bound u x is e h =
    let low = test_told x h in
    h ∙ sym (low_as_high mode r f u ∙ low_is_held mode r f u (omega (arith, ints, e, low))) ∙ ap (λ (o : Option ℤ). low_fits mode r f o) (sym is)

pub fits_low : (mode : Mode) (r : Receiver) (f : ℕ) (bound : Option ℤ) (u x : ℤ) (b : Bool) → bound ≡ Some u → x ≡ u → b ≡ high_fits mode r f (Some x) → b ≡ low_fits mode r f bound
fits_low mode r f bound u x b is e h =
    h ∙ ap (λ (z : ℤ). high_fits mode r f (Some z)) e ∙ sym (low_as_high mode r f u) ∙ ap (λ (o : Option ℤ). low_fits mode r f o) (sym is)

pub round_limit : (d f : ℕ) (x y : ℤ) → x ≡ pos (10 ^ f) → y ≡ pos (10 ^ (d + f)) → pos 2 *ℤ y -ℤ x ≡ pos 2 *ℤ pos (10 ^ (d + f)) -ℤ pos (10 ^ f)
round_limit d f x y e g = omega (arith, ints, e, g)
