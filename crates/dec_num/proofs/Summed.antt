-- What `align`, `add`, `sub` and `mul` ask of what they call, and what they make of its answers.
use Rattle.std.proofs.Common.{◌≡◌, ℕ, ◌-◌, ◌^◌, ◌<◌, ◌≤◌, ℤ, pos, ◌+ℤ◌, ◌-ℤ◌, ◌*ℤ◌, refl, ◌∙◌, sym, ap, subst, to_z, of_z, arith}
use Rattle.std.specs.Prelude.{unsigned_abs, FitsSigned}
use Rattle.std.specs.Int.{w128}
use Rattle.std.proofs.lemmas.Int.{ints, to_z-of_z, fits_signed_from_abs}
use Rattle.dec_num.specs.declared.types.Scaled.{Scaled}
use Rattle.dec_num.specs.Scaled.{units_at, joint_scale, CanAlign, CanAdd, CanSubtract, CanMultiply}
use Rattle.dec_num.proofs.Exactness.{own_units}

small_fits : (z : ℤ) → unsigned_abs z < 10 ^ 38 → FitsSigned w128 z
small_fits z h = fits_signed_from_abs w128 z (omega (arith, h))

small_read : (z : ℤ) → unsigned_abs z < 10 ^ 38 → to_z w128 (of_z w128 z) ≡ z
small_read z h = to_z-of_z w128 z (small_fits z h)

-- ---- at a greater scale, where x and p are the units and the power as they are read
pub aligned_fits : (a : Scaled) (scale : ℕ) (x p : ℤ) → CanAlign a scale → x ≡ a.units → p ≡ pos (10 ^ (scale - a.scale)) → FitsSigned w128 (x *ℤ p)
aligned_fits a scale x p can e f = rw (e, f) (small_fits (units_at a scale) can.fits)

pub aligned_units : (a : Scaled) (scale : ℕ) (x p r : ℤ) → CanAlign a scale → x ≡ a.units → p ≡ pos (10 ^ (scale - a.scale)) → r ≡ to_z w128 (of_z w128 (x *ℤ p)) → r ≡ units_at a scale
aligned_units a scale x p r can e f g =
    g ∙ ap (λ (z : ℤ). to_z w128 (of_z w128 z)) (ap (λ (y : ℤ). y *ℤ p) e ∙ ap (λ (q : ℤ). a.units *ℤ q) f) ∙ small_read (units_at a scale) can.fits

pub zero_units : (a : Scaled) (scale : ℕ) (r : ℤ) → a.units ≡ pos 0 → r ≡ pos 0 → r ≡ units_at a scale
zero_units a scale r e g = rw (g, e) (zero_times (10 ^ (scale - a.scale)))
  where
    zero_times : (n : ℕ) → pos 0 ≡ pos 0 *ℤ pos n
    zero_times n = omega (arith, ints)

-- ---- the product, where x and y are the units as they are read
pub product_fits : (a b : Scaled) (x y : ℤ) → CanMultiply a b → x ≡ a.units → y ≡ b.units → FitsSigned w128 (x *ℤ y)
product_fits a b x y can e f = rw (e, f) (small_fits (a.units *ℤ b.units) can.product)

pub product_units : (a b : Scaled) (x y r : ℤ) → CanMultiply a b → x ≡ a.units → y ≡ b.units → r ≡ to_z w128 (of_z w128 (x *ℤ y)) → r ≡ a.units *ℤ b.units
product_units a b x y r can e f g =
    g ∙ ap (λ (z : ℤ). to_z w128 (of_z w128 z)) (ap (λ (u : ℤ). u *ℤ y) e ∙ ap (λ (u : ℤ). a.units *ℤ u) f) ∙ small_read (a.units *ℤ b.units) can.product

-- ---- the operands at the greater scale
pub left_aligns : (a b : Scaled) (scale : ℕ) → scale ≡ joint_scale a b → joint_scale a b ≤ 74 → unsigned_abs (units_at a (joint_scale a b)) < 10 ^ 38 → CanAlign a scale
left_aligns a b scale e within left = subst (λ (s : ℕ). CanAlign a s) (sym e) (record { above = omega arith; within = within; fits = left })

pub right_aligns : (a b : Scaled) (scale : ℕ) → scale ≡ joint_scale a b → joint_scale a b ≤ 74 → unsigned_abs (units_at b (joint_scale a b)) < 10 ^ 38 → CanAlign b scale
right_aligns a b scale e within right = subst (λ (s : ℕ). CanAlign b s) (sym e) (record { above = omega arith; within = within; fits = right })

pub units_along : (a : Scaled) (scale joint : ℕ) (x : ℤ) → scale ≡ joint → x ≡ units_at a scale → x ≡ units_at a joint
units_along a scale joint x e f = f ∙ ap (units_at a) e

pub operand_small : (a : Scaled) (joint : ℕ) (x : ℤ) → x ≡ units_at a joint → unsigned_abs (units_at a joint) < 10 ^ 38 → unsigned_abs x < 10 ^ 38
operand_small a joint x e h = rw e h

-- ---- the sum
pub sum_small : (a b : Scaled) (x y : ℤ) → CanAdd a b → x ≡ units_at a (joint_scale a b) → y ≡ units_at b (joint_scale a b) → unsigned_abs (x +ℤ y) < 10 ^ 38
sum_small a b x y can e f = rw (e, f) can.sum

pub sum_units : (a b : Scaled) (x y r : ℤ) → x ≡ units_at a (joint_scale a b) → y ≡ units_at b (joint_scale a b) → r ≡ x +ℤ y → r ≡ units_at a (joint_scale a b) +ℤ units_at b (joint_scale a b)
sum_units a b x y r e f g = rw (g, e, f) refl

pub sum_at_one_scale : (a b r : Scaled) → r.scale ≡ joint_scale a b → r.units ≡ units_at a (joint_scale a b) +ℤ units_at b (joint_scale a b) → a.scale ≡ b.scale → (r.scale ≡ a.scale) × (r.units ≡ a.units +ℤ b.units)
sum_at_one_scale a b r e f same =
    let own = own_units a b same in (omega arith, f ∙ ap (λ (x : ℤ). x +ℤ units_at b (joint_scale a b)) own.0 ∙ ap (λ (y : ℤ). a.units +ℤ y) own.1)

-- ---- the difference
pub difference_small : (a b : Scaled) (x y : ℤ) → CanSubtract a b → x ≡ units_at a (joint_scale a b) → y ≡ units_at b (joint_scale a b) → unsigned_abs (x -ℤ y) < 10 ^ 38
difference_small a b x y can e f = rw (e, f) can.difference

pub difference_units : (a b : Scaled) (x y r : ℤ) → x ≡ units_at a (joint_scale a b) → y ≡ units_at b (joint_scale a b) → r ≡ x -ℤ y → r ≡ units_at a (joint_scale a b) -ℤ units_at b (joint_scale a b)
difference_units a b x y r e f g = rw (g, e, f) refl

pub difference_at_one_scale : (a b r : Scaled) → r.scale ≡ joint_scale a b → r.units ≡ units_at a (joint_scale a b) -ℤ units_at b (joint_scale a b) → a.scale ≡ b.scale → (r.scale ≡ a.scale) × (r.units ≡ a.units -ℤ b.units)
difference_at_one_scale a b r e f same =
    let own = own_units a b same in (omega arith, f ∙ ap (λ (x : ℤ). x -ℤ units_at b (joint_scale a b)) own.0 ∙ ap (λ (y : ℤ). a.units -ℤ y) own.1)
