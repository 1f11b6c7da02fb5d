-- Sums, products and quotients of small numbers.
use Rattle.std.proofs.Common.{◌≡◌, ℕ, suc, ◌+◌, ◌-◌, ◌*◌, ◌/◌, ◌^◌, ◌<◌, ◌≤◌, ◌==◌, ℤ, pos, negsuc, max, Bool, true, false, List, length, get_or, drop, Some, None, ◌⊎◌, inl, inr, refl, sym, ap, subst, ◌∙◌, arith}
use Rattle.std.specs.Prelude.{if◌then◌else◌, unsigned_abs, ◌+ℤ◌, ◌≤ℤ◌, neg_ℤ, ◌≢◌, nat_le, nat_lt}
use Rattle.std.specs.declared.cmp.Ordering.TheVariants.{Less, Equal, Greater}
use Rattle.std.specs.Ordering.{nat_cmp, is_lt, ord_max}
use Rattle.std.proofs.lemmas.Bool.Decides.{nat_tests}
use Rattle.std.proofs.lemmas.List.{drop_more, drop_all}
use Rattle.dec_num.specs.declared.types.Mode.TheVariants.{Trunc}
use Rattle.dec_num.specs.Exact.{ratio_of, near}
use Rattle.dec_num.proofs.Powers.{ten_monotone, ten-add}
use Rattle.std.proofs.lemmas.Int.{ints}
use Rattle.std.proofs.lemmas.Bool.{cases_lt, ne_eqb}
use Rattle.std.proofs.Math.Nat.{zero-div}
use Rattle.dec_num.specs.declared.types.Scaled.{Scaled}
use Rattle.dec_num.specs.Scaled.{units_at, joint_scale, CanAdd, CanMultiply}
use Rattle.cob_program.specs.Values.{plus, product, quotient_scale, quotient, digit_of, numeral, negated, literal}
use Rattle.cob_program.specs.Bounds.{is_small, literal_bound, IsSmall}
use Rattle.cob_tree.specs.declared.token.Num.{Num}
use Rattle.cob_program.proofs.Steps.{both, small_of, literal_within}
use Rattle.cob_calc.specs.Working.{CanDivide}

pub scaled_is : (v : Scaled) (u : ℤ) (s : ℕ) → v.scale ≡ s → v.units ≡ u → v ≡ record { units = u; scale = s }
scaled_is v u s e f = rw (← e, ← f) refl

own_units : (a : Scaled) → units_at a a.scale ≡ a.units
own_units a = let g : a.scale - a.scale ≡ 0 = omega arith in rw g (omega (arith, ints))

-- what is left of a sum without one of its sides
other_side : (x y : ℤ) (m : ℕ) → unsigned_abs x ≤ m → unsigned_abs (x +ℤ y) ≤ m → unsigned_abs y ≤ 2 * m
other_side x y m h s = omega (arith, ints)

other_left : (x y : ℤ) (m : ℕ) → unsigned_abs y ≤ m → unsigned_abs (x +ℤ y) ≤ m → unsigned_abs x ≤ 2 * m
other_left x y m h s = omega (arith, ints)

pub units_own : (a : Scaled) (j : ℕ) → j ≡ a.scale → units_at a j ≡ a.units
units_own a j e = rw e (own_units a)

-- Where both are small and their sum is, each is below the limit at the greater scale: one of them is there already.
sides_at : (a b : Scaled) (j : ℕ) → IsSmall a → IsSmall b → unsigned_abs (units_at a j +ℤ units_at b j) ≤ 10 ^ 37 - 1 → (j ≡ a.scale) ⊎ (j ≡ b.scale) →
    (unsigned_abs (units_at a j) < 10 ^ 38) × (unsigned_abs (units_at b j) < 10 ^ 38)
sides_at a b j h k s (inl e) =
    let l : unsigned_abs (units_at a j) ≤ 10 ^ 37 - 1 = rw (units_own a j e) h.most in
    (omega (arith, l), omega (arith, other_side (units_at a j) (units_at b j) (10 ^ 37 - 1) l s))
sides_at a b j h k s (inr e) =
    let r : unsigned_abs (units_at b j) ≤ 10 ^ 37 - 1 = rw (units_own b j e) k.most in
    (omega (arith, other_left (units_at a j) (units_at b j) (10 ^ 37 - 1) r s), omega (arith, r))

greater_is : (m n : ℕ) → (max m n ≡ m) ⊎ (max m n ≡ n)
greater_is m n = elim (cases_lt m n) as (λ _. (max m n ≡ m) ⊎ (max m n ≡ n)) [ inl h ↦ inr (omega arith) | inr h ↦ inl (omega arith) ]

pub can_add : (a b : Scaled) → IsSmall a → IsSmall b → IsSmall (plus a b) → CanAdd a b
can_add a b h k s =
    let sides = sides_at a b (joint_scale a b) h k s.most (greater_is a.scale b.scale) in
    record { within = omega (arith, s.scale); left = sides.0; right = sides.1; sum = omega (arith, s.most) }

pub can_multiply : (a b : Scaled) → IsSmall (product a b) → CanMultiply a b
can_multiply a b h = record { within = omega (arith, h.scale); product = omega (arith, h.most) }

pub ruleset sums = (scaled_is, can_add)

pub ruleset products = (scaled_is, can_multiply)

-- ---- quotients

size_of_none : (z : ℤ) → unsigned_abs z ≡ 0 → z ≡ pos 0
size_of_none z e = omega (arith, ints)

pub not_zero : (z : ℤ) → z ≢ pos 0 → (unsigned_abs z == 0) ≡ false
not_zero z h = ne_eqb (unsigned_abs z) 0 (λ e. h (size_of_none z e))

pub no_quotient : (a b : Scaled) → b.units ≡ pos 0 → None ≡ quotient a b
no_quotient a b e = rw e refl

some_quotient : (a b : Scaled) → b.units ≢ pos 0 → quotient a b ≡ Some (record {
  units = near Trunc (ratio_of a.units b.units) (pos (quotient_scale a.scale b.scale + b.scale - a.scale));
  scale = quotient_scale a.scale b.scale;
})
some_quotient a b h = rw (not_zero b.units h) refl

quotient_is : (a b r : Scaled) (u up : ℤ) (s : ℕ) → b.units ≢ pos 0 → s ≡ quotient_scale a.scale b.scale → up ≡ pos (s + b.scale - a.scale) →
    u ≡ near Trunc (ratio_of a.units b.units) up → r ≡ record { units = u; scale = s } → Some r ≡ quotient a b
quotient_is a b r u up s h es eu en er = rw (er, en, eu, es, some_quotient a b h) refl

none_divided : (m n : ℕ) → m ≡ 0 → m / n ≡ 0
none_divided m n e = rw e (zero-div n)

ratio_of_zero : (b : ℤ) (k : ℕ) → near Trunc (ratio_of (pos 0) b) (pos k) ≡ pos 0
ratio_of_zero (pos n) k = ap pos (none_divided (0 * 10 ^ k) n (omega arith))
ratio_of_zero (negsuc n) k = ap pos (none_divided (0 * 10 ^ k) (suc n) (omega arith))

pub zero_quotient : (a b r : Scaled) (s : ℕ) → b.units ≢ pos 0 → a.units ≡ pos 0 → s ≡ quotient_scale a.scale b.scale → r ≡ record { units = pos 0; scale = s } → Some r ≡ quotient a b
zero_quotient a b r s h z es er =
    rw (er, es, some_quotient a b h, z) (ap (λ u. Some (record { units = u; scale = quotient_scale a.scale b.scale })) (sym (ratio_of_zero b.units (quotient_scale a.scale b.scale + b.scale - a.scale))))

pub zero_divisor : (a b : Scaled) → b.units ≡ pos 0 → (b.units ≢ pos 0) → None ≡ quotient a b
zero_divisor a b e h = absurd (h e)

-- no quotient has too many digits
no_overflow : (a b : Scaled) (up : ℤ) (s : ℕ) → CanDivide a b → s ≡ quotient_scale a.scale b.scale → up ≡ pos (s + b.scale - a.scale) →
    (b.units ≢ pos 0) × (10 ^ 37 ≤ unsigned_abs (near Trunc (ratio_of a.units b.units) up)) → None ≡ quotient a b
no_overflow a b up s can es eu h =
    let e : up ≡ pos (quotient_scale a.scale b.scale + b.scale - a.scale) = rw (eu, es) refl in
    let most = can.result h.0 in
    let over = subst (λ u. 10 ^ 37 ≤ unsigned_abs (near Trunc (ratio_of a.units b.units) u)) e h.1 in
    absurd (omega (arith, over, most))

-- ---- quotients as the code has them, where a number stands for its word

greater_by : (m n : ℕ) (below same : Bool) → nat_lt n m ≡ below → (if is_lt (if below then Less else (if same then Equal else Greater)) then m else n) ≡ max m n
greater_by m n true same e = let h : n < m = grind (arith, nat_tests) in omega (arith, h)
greater_by m n false true e = let h : m ≤ n = grind (arith, nat_tests) in omega (arith, h)
greater_by m n false false e = let h : m ≤ n = grind (arith, nat_tests) in omega (arith, h)

greater_of : (m n : ℕ) → ord_max nat_cmp m n ≡ max m n
greater_of m n = greater_by m n (nat_lt n m) (n == m) refl

pub scale_of_words : (a b : Scaled) (m s : ℕ) → m ≡ max a.scale b.scale → s ≡ ord_max nat_cmp 6 m → s ≡ quotient_scale a.scale b.scale
scale_of_words a b m s em es = es ∙ greater_of 6 m ∙ ap (max 6) em

pub places_of_words : (a b : Scaled) (v up : ℤ) (s : ℕ) → CanDivide a b → a.units ≢ pos 0 → v ≡ up → s ≡ quotient_scale a.scale b.scale → up ≡ pos (s + b.scale - a.scale) →
    (neg_ℤ (pos 37) ≤ℤ v) × (v ≤ℤ pos 55)
places_of_words a b v up s can h ev es eu =
    let e : v ≡ pos (quotient_scale a.scale b.scale + b.scale - a.scale) = rw (ev, eu, es) refl in
    let few = can.digits h in
    (omega (arith, ints, e), omega (arith, ints, e, few))

near_of_words : (a b : Scaled) (x y v up : ℤ) → x ≡ a.units → y ≡ b.units → v ≡ up → near Trunc (ratio_of x y) v ≡ near Trunc (ratio_of a.units b.units) up
near_of_words a b x y v up ex ey ev = rw (ex, ey, ev) refl

pub quotient_of_words : (a b r : Scaled) (x y u w v up : ℤ) (s : ℕ) → x ≡ a.units → y ≡ b.units → v ≡ up → w ≡ u → s ≡ quotient_scale a.scale b.scale → up ≡ pos (s + b.scale - a.scale) →
    (y ≢ pos 0) × (u ≡ near Trunc (ratio_of x y) v) × (unsigned_abs u < 10 ^ 37) → r ≡ record { units = w; scale = s } → Some r ≡ quotient a b
quotient_of_words a b r x y u w v up s ex ey ev ew es eu h er =
    quotient_is a b r u up s (subst (λ z. z ≢ pos 0) ey h.0) es eu (h.1 ∙ near_of_words a b x y v up ex ey ev) (er ∙ ap (λ z. record { units = z; scale = s }) ew)

pub no_overflow_of_words : (a b : Scaled) (x y v up : ℤ) (s : ℕ) → CanDivide a b → x ≡ a.units → y ≡ b.units → v ≡ up → s ≡ quotient_scale a.scale b.scale → up ≡ pos (s + b.scale - a.scale) →
    (y ≢ pos 0) × (10 ^ 37 ≤ unsigned_abs (near Trunc (ratio_of x y) v)) → None ≡ quotient a b
no_overflow_of_words a b x y v up s can ex ey ev es eu h =
    no_overflow a b up s can es eu (subst (λ z. z ≢ pos 0) ey h.0, subst (λ z. 10 ^ 37 ≤ unsigned_abs z) (near_of_words a b x y v up ex ey ev) h.1)

-- ---- literals

few_digits : (n : ℕ) → nat_le (10 ^ n - 1) (10 ^ 37 - 1) ≡ true → n ≤ 37
few_digits n e = elim (cases_lt 37 n) as (λ _. n ≤ 37) [ inl h ↦ absurd (omega (arith, at_most (10 ^ n - 1) (10 ^ 37 - 1) e, ten_monotone 38 n h)) | inr h ↦ h ]
  where
    at_most : (a b : ℕ) → nat_le a b ≡ true → a ≤ b
    at_most a b e = grind (arith, nat_tests)

pub literal_digits : (n : Num) → is_small (literal_bound n) ≡ true → length n.digits ≤ 37
literal_digits n e = few_digits (length n.digits) (both (nat_le (10 ^ length n.digits - 1) (10 ^ 37 - 1)) (nat_le n.scale 37) e).0

without_sign : (minus : Bool) (v : Scaled) → IsSmall (negated minus v) → IsSmall v
without_sign false v h = h
without_sign true v h = record { most = omega (arith, ints, h.most); scale = h.scale }

pub literal_small : (n : Num) (v : Scaled) (u : ℤ) → is_small (literal_bound n) ≡ true → u ≡ pos (numeral 0 n.digits) → v ≡ record { units = u; scale = n.scale } → IsSmall v
literal_small n v u e eu ev =
    let h = small_of (literal n) (literal_bound n) (literal_within n) e in
    subst IsSmall (sym (ev ∙ ap (λ x. record { units = x; scale = n.scale }) eu)) (without_sign (n.sign == 45) (record { units = pos (numeral 0 n.digits); scale = n.scale }) h)

digit_low : (c : ℕ) → digit_of c ≤ 9
digit_low c = omega arith

pub numeral_step : (cs : List ℕ) (i n c : ℕ) → i < length cs → c ≡ get_or cs i 0 → numeral n (drop i cs) ≡ numeral (10 * n + digit_of c) (drop (i + 1) cs)
numeral_step cs i n c h e = rw e (ap (numeral n) (drop_more cs i 0 h))

pub numeral_end : (cs : List ℕ) (i n : ℕ) → length cs ≤ i → numeral n (drop i cs) ≡ n
numeral_end cs i n h = ap (numeral n) (drop_all i cs h)

pub numeral_room : (i n c : ℕ) → i < 37 → n < 10 ^ i → 10 * n + digit_of c < 10 ^ (i + 1)
numeral_room i n c h k = omega (arith, digit_low c, ten-add i 1)

pub ruleset numerals = (numeral_step, numeral_end, numeral_room, ten_monotone)

pub literal_is_small : (n : Num) (v : Scaled) → is_small (literal_bound n) ≡ true → v ≡ literal n → IsSmall v
literal_is_small n v e is = subst IsSmall (sym is) (small_of (literal n) (literal_bound n) (literal_within n) e)

pub ruleset literals = (literal_digits, literal_small, literal_is_small)

pub ruleset quotients = (no_quotient, zero_quotient, zero_divisor)
