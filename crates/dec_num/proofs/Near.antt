-- Whole numbers near a fraction.
use Rattle.std.proofs.Common.{◌≡◌, ℕ, ◌+◌, ◌-◌, ◌*◌, ◌/◌, ◌%◌, ◌^◌, ◌<◌, ◌≤◌, ℤ, ◌*ℤ◌, ◌≤ℤ◌, pos, negsuc, zero, suc, refl, ap, ◌∙◌, sym, arith}
use Rattle.std.specs.Prelude.{unsigned_abs, ◌≢◌}
use Rattle.std.proofs.Math.Nat.{mul-div-mul_right, mul-div_left, div-add-mod', div-eq_of_lt-le, le-mul_of_pos_right, div-le_self, div-mul-le_self, le_refl, lt-div-mul-add}
use Rattle.std.proofs.lemmas.Int.{ints, unsigned_abs-mul}
use Rattle.std.proofs.lemmas.Nat.{le-div, div_below, mod_below, mul-le}
use Rattle.dec_num.specs.declared.types.Mode.{Mode}
use Rattle.dec_num.specs.declared.types.Mode.TheVariants.{Trunc, Round}
use Rattle.dec_num.specs.declared.types.Scaled.{Scaled}
use Rattle.dec_num.specs.Exact.{Fraction, IsSameNumber, rounded, with_sign_of, near, near_size, ratio_of, IsRounded, IsNearSize}
use Rattle.dec_num.specs.Scaled.{value_of}
use Rattle.dec_num.proofs.Powers.{ten_positive, ten_monotone, ten_split}

-- a common factor goes
pub rounded_common : (mode : Mode) (a b k : ℕ) → 0 < k → rounded mode (a * k) (b * k) ≡ rounded mode a b
rounded_common Trunc a b k h = mul-div-mul_right a b h
rounded_common Round a b k h =
    let e : 2 * (a * k) + b * k ≡ (2 * a + b) * k = omega arith in
    let f : 2 * (b * k) ≡ 2 * b * k = omega arith in
    rw (e, f) (mul-div-mul_right (2 * a + b) (2 * b) h)

-- a whole number is its own
pub rounded_whole : (mode : Mode) (a b : ℕ) → 0 < b → rounded mode (a * b) b ≡ a
rounded_whole Trunc a b h = mul-div_left a h
rounded_whole Round a b h = div-eq_of_lt-le (2 * b) (omega arith) (omega arith)

-- what was divided, put together again
pub rounded_joined : (mode : Mode) (a b : ℕ) → rounded mode (a / b * b + a % b) b ≡ rounded mode a b
rounded_joined mode a b = ap (λ n. rounded mode n b) (div-add-mod' a b)

pub rounded_up : (mode : Mode) (size j k : ℕ) → j ≤ k → rounded mode (size * 10 ^ k) (10 ^ j) ≡ size * 10 ^ (k - j)
rounded_up mode size j k h =
    let e : size * 10 ^ k ≡ (size * 10 ^ (k - j)) * 10 ^ j = omega (arith, ap (λ n. size * n) (ten_split j k h)) in
    rw e (rounded_whole mode (size * 10 ^ (k - j)) (10 ^ j) (omega (arith, ten_positive j)))

pub rounded_down : (mode : Mode) (size j k : ℕ) → k ≤ j → rounded mode (size * 10 ^ k) (10 ^ j) ≡ rounded mode size (10 ^ (j - k))
rounded_down mode size j k h =
    let e : 10 ^ j ≡ 10 ^ (j - k) * 10 ^ k = omega (arith, ten_split k j h) in
    rw e (rounded_common mode size (10 ^ (j - k)) (10 ^ k) (omega (arith, ten_positive k)))

-- a greater scale has no fewer units
pub rounded_above : (mode : Mode) (size j k : ℕ) → j ≤ k → size ≤ rounded mode (size * 10 ^ k) (10 ^ j)
rounded_above mode size j k h = omega (arith, rounded_up mode size j k h, le-mul_of_pos_right size (ten_positive (k - j)))

pub abs_with_sign : (z : ℤ) (size : ℕ) → unsigned_abs (with_sign_of z size) ≡ size
abs_with_sign (pos _) size = refl
abs_with_sign (negsuc _) zero = refl
abs_with_sign (negsuc _) (suc size) = refl

-- no rounding goes past the number that is divided
pub rounded_below : (mode : Mode) (top bottom : ℕ) → 0 < bottom → rounded mode top bottom ≤ top
rounded_below Trunc top bottom h = div-le_self top bottom
rounded_below Round top bottom h =
    omega (arith, div_below (2 * top + bottom) (2 * bottom) (top + 1) (omega arith) (omega (arith, le-mul_of_pos_right top h)))

-- what is cut is never more than what is rounded
pub cut_below : (mode : Mode) (top bottom : ℕ) → 0 < bottom → top / bottom ≤ rounded mode top bottom
cut_below Trunc top bottom h = le_refl (top / bottom)
cut_below Round top bottom h = le-div (top / bottom) (2 * top + bottom) (2 * bottom) (omega arith) (omega (arith, div-mul-le_self top bottom))

-- ---- the inequalities
pub rounded_is : (mode : Mode) (top bottom : ℕ) → 0 < bottom → IsRounded mode top bottom (rounded mode top bottom)
rounded_is Trunc top bottom h = (div-mul-le_self top bottom, omega (arith, lt-div-mul-add {a = top} h))
rounded_is Round top bottom h =
    (omega (arith, div-mul-le_self (2 * top + bottom) (2 * bottom)), omega (arith, div-add-mod' (2 * top + bottom) (2 * bottom), mod_below (2 * top + bottom) (2 * bottom) (omega arith)))

-- only one number meets them
pub rounded_unique : (mode : Mode) (top bottom size : ℕ) → 0 < bottom → IsRounded mode top bottom size → rounded mode top bottom ≡ size
rounded_unique Trunc top bottom size h r = div-eq_of_lt-le bottom r.0 r.1
rounded_unique Round top bottom size h r = div-eq_of_lt-le (2 * bottom) (omega (arith, r.0)) (omega (arith, r.1))

times_ten : (n k : ℕ) → 0 < n → 0 < n * 10 ^ k
times_ten n k h = omega (arith, mul-le 1 1 n (10 ^ k) h (ten_positive k))

pub near_size_is : (mode : Mode) (v : Fraction) (up : ℤ) → 0 < v.bottom → IsNearSize mode v up (near_size mode v up)
near_size_is mode v (pos k) h = rounded_is mode (unsigned_abs v.top * 10 ^ k) v.bottom h
near_size_is mode v (negsuc k) h =
    rounded_is mode (unsigned_abs v.top) (v.bottom * 10 ^ suc k) (times_ten v.bottom (suc k) h)

pub size_of_near : (mode : Mode) (v : Fraction) (up : ℤ) → unsigned_abs (near mode v up) ≡ near_size mode v up
size_of_near mode v up = abs_with_sign v.top (near_size mode v up)

-- a decimal's bottom is a power of ten
pub nearest_value : (mode : Mode) (v : Scaled) (up z : ℤ) → z ≡ near mode (value_of v) up → IsNearSize mode (value_of v) up (unsigned_abs z)
nearest_value mode v up z e =
    rw (e, size_of_near mode (value_of v) up) (near_size_is mode (value_of v) up (omega (arith, ten_positive v.scale)))

-- the bottom of a ratio is the size of its divisor
bottom_positive : (n d : ℤ) → d ≢ pos 0 → 0 < (ratio_of n d).bottom
bottom_positive n (pos d) h = omega (arith, λ (e : d ≡ 0). h (ap pos e))
bottom_positive n (negsuc d) h = omega arith

pub nearest_ratio : (mode : Mode) (n d up z : ℤ) → d ≢ pos 0 → z ≡ near mode (ratio_of n d) up → IsNearSize mode (ratio_of n d) up (unsigned_abs z)
nearest_ratio mode n d up z h e =
    rw (e, size_of_near mode (ratio_of n d) up) (near_size_is mode (ratio_of n d) up (bottom_positive n d h))

-- ---- at its own scale a value is its units
with_own_sign : (z : ℤ) → with_sign_of z (unsigned_abs z) ≡ z
with_own_sign (pos n) = refl
with_own_sign (negsuc n) = refl

pub rounded_own_scale : (mode : Mode) (size j k : ℕ) → j ≡ k → rounded mode (size * 10 ^ k) (10 ^ j) ≡ size
rounded_own_scale mode size j k e = rw e (rounded_whole mode size (10 ^ k) (omega (arith, ten_positive k)))

pub near_own_scale : (mode : Mode) (v : Scaled) → near mode (value_of v) (pos v.scale) ≡ v.units
near_own_scale mode v =
    ap (with_sign_of v.units) (rounded_whole mode (unsigned_abs v.units) (10 ^ v.scale) (omega (arith, ten_positive v.scale))) ∙ with_own_sign v.units

-- ---- two fractions that are one number are near the same
rounded_same : (mode : Mode) (a b c d : ℕ) → 0 < b → 0 < d → a * d ≡ c * b → rounded mode a b ≡ rounded mode c d
rounded_same mode a b c d h k e =
    let f : b * d ≡ d * b = omega arith in
    let joined : rounded mode (a * d) (b * d) ≡ rounded mode (c * b) (d * b) = rw (e, f) refl in
    sym (rounded_common mode a b d k) ∙ joined ∙ rounded_common mode c d b h

size_same : (x y : ℤ) (b d : ℕ) → x *ℤ pos d ≡ y *ℤ pos b → unsigned_abs x * d ≡ unsigned_abs y * b
size_same x y b d e = sym (unsigned_abs-mul x (pos d)) ∙ ap unsigned_abs e ∙ unsigned_abs-mul y (pos b)

sign_same : (x y : ℤ) (b d m : ℕ) → 0 < b → 0 < d → x *ℤ pos d ≡ y *ℤ pos b → with_sign_of x m ≡ with_sign_of y m
sign_same (pos a) (pos c) b d m h k e = refl
sign_same (pos a) (negsuc c) b d m h k e = absurd (omega (arith, ints, mul-le 1 1 (suc c) b (omega arith) h))
sign_same (negsuc a) (pos c) b d m h k e = absurd (omega (arith, ints, mul-le 1 1 (suc a) d (omega arith) k))
sign_same (negsuc a) (negsuc c) b d m h k e = refl

near_size_same : (mode : Mode) (p q : Fraction) (up : ℤ) → 0 < p.bottom → 0 < q.bottom → IsSameNumber p q → near_size mode p up ≡ near_size mode q up
near_size_same mode p q (pos k) h l e =
    rounded_same mode (unsigned_abs p.top * 10 ^ k) p.bottom (unsigned_abs q.top * 10 ^ k) q.bottom h l (omega (arith, ap (λ n. n * 10 ^ k) (size_same p.top q.top p.bottom q.bottom e)))
near_size_same mode p q (negsuc k) h l e =
    rounded_same mode (unsigned_abs p.top) (p.bottom * 10 ^ suc k) (unsigned_abs q.top) (q.bottom * 10 ^ suc k) (times_ten p.bottom (suc k) h) (times_ten q.bottom (suc k) l) (omega (arith, ap (λ n. n * 10 ^ suc k) (size_same p.top q.top p.bottom q.bottom e)))

pub near_same : (mode : Mode) (p q : Fraction) (up : ℤ) → 0 < p.bottom → 0 < q.bottom → IsSameNumber p q → near mode p up ≡ near mode q up
near_same mode p q up h l e =
    ap (with_sign_of p.top) (near_size_same mode p q up h l e) ∙ sign_same p.top q.top p.bottom q.bottom (near_size mode q up) h l e

-- ---- a greater value is near no smaller number
rounded_monotone : (mode : Mode) (a c bottom : ℕ) → 0 < bottom → a ≤ c → rounded mode a bottom ≤ rounded mode c bottom
rounded_monotone Trunc a c bottom h k = le-div (a / bottom) c bottom h (omega (arith, div-mul-le_self a bottom))
rounded_monotone Round a c bottom h k =
    le-div ((2 * a + bottom) / (2 * bottom)) (2 * c + bottom) (2 * bottom) (omega arith) (omega (arith, div-mul-le_self (2 * a + bottom) (2 * bottom)))

signed_monotone : (f : ℕ → ℕ) → ((m n : ℕ) → m ≤ n → f m ≤ f n) → (x y : ℤ) → x ≤ℤ y → with_sign_of x (f (unsigned_abs x)) ≤ℤ with_sign_of y (f (unsigned_abs y))
signed_monotone f grows (pos a) (pos c) h = omega (arith, ints, grows a c (omega (arith, ints)))
signed_monotone f grows (pos a) (negsuc c) h = absurd (omega (arith, ints))
signed_monotone f grows (negsuc a) (pos c) h = omega (arith, ints)
signed_monotone f grows (negsuc a) (negsuc c) h = omega (arith, ints, grows (suc c) (suc a) (omega (arith, ints)))

pub near_monotone : (mode : Mode) (x y : ℤ) (bottom : ℕ) (up : ℤ) → 0 < bottom → x ≤ℤ y → near mode (record { top = x; bottom = bottom }) up ≤ℤ near mode (record { top = y; bottom = bottom }) up
near_monotone mode x y bottom (pos k) h =
    signed_monotone (λ n. rounded mode (n * 10 ^ k) bottom)
    (λ m n l. rounded_monotone mode (m * 10 ^ k) (n * 10 ^ k) bottom h (mul-le m (10 ^ k) n (10 ^ k) l (le_refl (10 ^ k)))) x y
near_monotone mode x y bottom (negsuc k) h =
    signed_monotone (λ n. rounded mode n (bottom * 10 ^ suc k)) (λ m n l. rounded_monotone mode m n (bottom * 10 ^ suc k) (times_ten bottom (suc k) h) l) x y

-- ---- what the calls need
pub ruleset rescaling = (rounded_down, rounded_up, ten_positive)

pub ruleset raising = (rounded_up, rounded_above, ten_monotone)

pub ruleset fits = (abs_with_sign, rounded_own_scale, nearest_value, ten_monotone)

pub ruleset quotients = (abs_with_sign, nearest_ratio)
