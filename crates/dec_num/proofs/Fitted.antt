-- What `fit` stores.
use Rattle.std.proofs.Common.{◌≡◌, ℕ, ◌*◌, ◌^◌, ◌<◌, ◌≤◌, ℤ, pos, ◌∙◌, sym, ap, arith}
use Rattle.std.specs.Prelude.{unsigned_abs}
use Rattle.dec_num.specs.declared.types.Mode.{Mode}
use Rattle.dec_num.specs.declared.types.Scaled.{Scaled}
use Rattle.dec_num.specs.Exact.{rounded, with_sign_of, near}
use Rattle.dec_num.specs.Scaled.{value_of}
use Rattle.dec_num.proofs.Powers.{ten_monotone}
use Rattle.dec_num.proofs.Near.{size_of_near, rounded_own_scale, near_own_scale}

-- the size in units of the receiver's scale
abbrev pub moved : Mode → ℕ → ℕ → ℕ → ℕ
moved mode size from to = rounded mode (size * 10 ^ to) (10 ^ from)

pub below_limit : (size digits : ℕ) → digits ≤ 18 → size < 10 ^ digits → size < 10 ^ 18
below_limit size digits h k = omega (arith, k, ten_monotone digits 18 h)

pub size_below : (limit size digits : ℕ) → digits ≤ 18 → limit < 10 ^ digits → size ≡ limit → size < 10 ^ 18
size_below limit size digits h k e = rw e (below_limit limit digits h k)

pub not_both : (a b : ℕ) → a < b → b ≤ a → ⊥
not_both a b h k = omega arith

at_least : (a b : ℕ) → (a < b → ⊥) → b ≤ a
at_least a b h = omega (arith, h)

module _ (mode : Mode) (v : Scaled) (scale digits size : ℕ) (is_size : size ≡ unsigned_abs v.units) where
  pub near_small : moved mode size v.scale scale < 10 ^ digits → unsigned_abs (near mode (value_of v) (pos scale)) < 10 ^ digits
  near_small h = rw (size_of_near mode (value_of v) (pos scale), ← is_size) h

  pub near_large : (moved mode size v.scale scale < 10 ^ digits → ⊥) → 10 ^ digits ≤ unsigned_abs (near mode (value_of v) (pos scale))
  near_large h = rw (size_of_near mode (value_of v) (pos scale), ← is_size) (at_least _ _ h)

  pub own_large : (moved mode size v.scale scale < 10 ^ digits → ⊥) → v.scale ≡ scale → 10 ^ digits ≤ unsigned_abs v.units
  own_large h e = rw (← is_size, ← rounded_own_scale mode size v.scale scale e) (at_least _ _ h)

  -- the number that is stored, which has the sign of the value
  pub stored_near : (units r z : ℤ) (found : ℕ) → units ≡ v.units → found ≡ moved mode size v.scale scale → r ≡ with_sign_of units found → z ≡ r → z ≡ near mode (value_of v) (pos scale)
  stored_near units r z found u f g h =
      h ∙ g ∙ ap (λ (x : ℤ). with_sign_of x found) u ∙ ap (with_sign_of v.units) (f ∙ ap (λ (n : ℕ). moved mode n v.scale scale) is_size)

pub own_stored : (mode : Mode) (v : Scaled) (scale digits : ℕ) (z : ℤ) → z ≡ near mode (value_of v) (pos scale) → unsigned_abs z < 10 ^ digits → v.scale ≡ scale → (z ≡ v.units) × (unsigned_abs z < 10 ^ digits)
own_stored mode v scale digits z e h own =
    (e ∙ ap (λ (k : ℕ). near mode (value_of v) (pos k)) (sym own) ∙ near_own_scale mode v, h)
