-- What a caller shows of `align`, `add`, `sub` and `mul`, from bounds on the units or from numbers of digits.
use Rattle.std.proofs.Common.{ℕ, ◌+◌, ◌-◌, ◌*◌, ◌^◌, ◌<◌, ◌≤◌, ℤ, pos, ◌+ℤ◌, ◌-ℤ◌, ◌*ℤ◌, arith}
use Rattle.std.specs.Prelude.{unsigned_abs}
use Rattle.std.proofs.Math.Nat.{le_refl}
use Rattle.std.proofs.lemmas.Int.{ints, unsigned_abs-mul}
use Rattle.std.proofs.lemmas.Nat.{mul-le}
use Rattle.dec_num.specs.declared.types.Scaled.{Scaled}
use Rattle.dec_num.specs.Scaled.{units_at, joint_scale, CanAlign, CanAdd, CanSubtract, CanMultiply}
use Rattle.dec_num.proofs.Powers.{ten_monotone, ten-add}

-- ---- sizes
pub size_of_sum : (x y : ℤ) → unsigned_abs (x +ℤ y) ≤ unsigned_abs x + unsigned_abs y
size_of_sum x y = omega (arith, ints)

pub size_of_difference : (x y : ℤ) → unsigned_abs (x -ℤ y) ≤ unsigned_abs x + unsigned_abs y
size_of_difference x y = omega (arith, ints)

pub size_of_product : (x y : ℤ) (p q : ℕ) → unsigned_abs x ≤ p → unsigned_abs y ≤ q → unsigned_abs (x *ℤ y) ≤ p * q
size_of_product x y p q h k = rw (unsigned_abs-mul x y) (mul-le (unsigned_abs x) (unsigned_abs y) p q h k)

-- units below p, at a greater scale
pub size_of_units_at : (a : Scaled) (scale p : ℕ) → unsigned_abs a.units ≤ p → unsigned_abs (units_at a scale) ≤ p * 10 ^ (scale - a.scale)
size_of_units_at a scale p h = size_of_product a.units (pos (10 ^ (scale - a.scale))) p (10 ^ (scale - a.scale)) h (le_refl (10 ^ (scale - a.scale)))

-- ---- by bounds on the units
pub CanAlign_by_bound : (a : Scaled) (scale p : ℕ) → unsigned_abs a.units ≤ p → a.scale ≤ scale → scale ≤ 74 → p * 10 ^ (scale - a.scale) < 10 ^ 38 → CanAlign a scale
CanAlign_by_bound a scale p h above within fits = record {
  above = above;
  within = within;
  fits = omega (arith, size_of_units_at a scale p h);
}

pub CanAdd_by_bounds : (a b : Scaled) (p q : ℕ) → unsigned_abs a.units ≤ p → unsigned_abs b.units ≤ q → joint_scale a b ≤ 74 → p * 10 ^ (joint_scale a b - a.scale) + q * 10 ^ (joint_scale a b - b.scale) < 10 ^ 38 → CanAdd a b
CanAdd_by_bounds a b p q h k within fits =
    let left = size_of_units_at a (joint_scale a b) p h in
    let right = size_of_units_at b (joint_scale a b) q k in
    record {
      within = within;
      left = omega (arith, left);
      right = omega (arith, right);
      sum = omega (arith, left, right, size_of_sum (units_at a (joint_scale a b)) (units_at b (joint_scale a b)));
    }

pub CanSubtract_by_bounds : (a b : Scaled) (p q : ℕ) → unsigned_abs a.units ≤ p → unsigned_abs b.units ≤ q → joint_scale a b ≤ 74 → p * 10 ^ (joint_scale a b - a.scale) + q * 10 ^ (joint_scale a b - b.scale) < 10 ^ 38 → CanSubtract a b
CanSubtract_by_bounds a b p q h k within fits =
    let left = size_of_units_at a (joint_scale a b) p h in
    let right = size_of_units_at b (joint_scale a b) q k in
    record {
      within = within;
      left = omega (arith, left);
      right = omega (arith, right);
      difference = omega (arith, left, right, size_of_difference (units_at a (joint_scale a b)) (units_at b (joint_scale a b)));
    }

pub CanMultiply_by_bounds : (a b : Scaled) (p q : ℕ) → unsigned_abs a.units ≤ p → unsigned_abs b.units ≤ q → a.scale + b.scale ≤ 74 → p * q < 10 ^ 38 → CanMultiply a b
CanMultiply_by_bounds a b p q h k within fits = record { within = within; product = omega (arith, size_of_product a.units b.units p q h k) }

-- ---- by numbers of digits
-- units of m digits have m and the added ones at a greater scale
pub digits_at : (m k n : ℕ) → m + k ≤ n → 10 ^ m * 10 ^ k ≤ 10 ^ n
digits_at m k n h = omega (arith, ten-add m k, ten_monotone (m + k) n h)

pub CanAdd_by_digits : (a b : Scaled) (m n : ℕ) → unsigned_abs a.units < 10 ^ m → unsigned_abs b.units < 10 ^ n → joint_scale a b ≤ 74 → m + (joint_scale a b - a.scale) ≤ 37 → n + (joint_scale a b - b.scale) ≤ 37 → CanAdd a b
CanAdd_by_digits a b m n h k within left right =
    CanAdd_by_bounds a b (10 ^ m) (10 ^ n) (omega arith) (omega arith) within
    (omega (arith, digits_at m (joint_scale a b - a.scale) 37 left, digits_at n (joint_scale a b - b.scale) 37 right))

pub CanSubtract_by_digits : (a b : Scaled) (m n : ℕ) → unsigned_abs a.units < 10 ^ m → unsigned_abs b.units < 10 ^ n → joint_scale a b ≤ 74 → m + (joint_scale a b - a.scale) ≤ 37 → n + (joint_scale a b - b.scale) ≤ 37 → CanSubtract a b
CanSubtract_by_digits a b m n h k within left right =
    CanSubtract_by_bounds a b (10 ^ m) (10 ^ n) (omega arith) (omega arith) within
    (omega (arith, digits_at m (joint_scale a b - a.scale) 37 left, digits_at n (joint_scale a b - b.scale) 37 right))

pub CanMultiply_by_digits : (a b : Scaled) (m n : ℕ) → unsigned_abs a.units < 10 ^ m → unsigned_abs b.units < 10 ^ n → a.scale + b.scale ≤ 74 → m + n ≤ 37 → CanMultiply a b
CanMultiply_by_digits a b m n h k within fits =
    CanMultiply_by_bounds a b (10 ^ m) (10 ^ n) (omega arith) (omega arith) within (omega (arith, digits_at m n 37 fits))

-- ---- items of at most 18 digits
pub CanAdd_items : (a b : Scaled) → unsigned_abs a.units < 10 ^ 18 → unsigned_abs b.units < 10 ^ 18 → a.scale ≤ 18 → b.scale ≤ 18 → CanAdd a b
CanAdd_items a b h k l m = CanAdd_by_digits a b 18 18 h k (omega arith) (omega arith) (omega arith)

pub CanSubtract_items : (a b : Scaled) → unsigned_abs a.units < 10 ^ 18 → unsigned_abs b.units < 10 ^ 18 → a.scale ≤ 18 → b.scale ≤ 18 → CanSubtract a b
CanSubtract_items a b h k l m = CanSubtract_by_digits a b 18 18 h k (omega arith) (omega arith) (omega arith)

pub CanMultiply_items : (a b : Scaled) → unsigned_abs a.units < 10 ^ 18 → unsigned_abs b.units < 10 ^ 18 → a.scale ≤ 18 → b.scale ≤ 18 → CanMultiply a b
CanMultiply_items a b h k l m = CanMultiply_by_digits a b 18 18 h k (omega arith) (omega arith)
