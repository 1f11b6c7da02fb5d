-- Linear forms, and the numbers that they stand for where the cells have given values.
use Rattle.std.specs.Prelude.{ℕ, zero, suc, ◌^◌, ◌<◌, Bool, ◌&&◌, nat_lt, if◌then◌else◌, List, ◌∷◌, map, ℤ, pos, ◌+ℤ◌, ◌*ℤ◌, unsigned_abs, slice_index_or, Option, Some, None}
use Rattle.std.specs.List.{range_with_len, list_all}
use Rattle.interval_domain.specs.declared.bounds.Interval.{Interval}
use Rattle.interval_domain.specs.Bounds.{IsSmall}
use Rattle.interval_domain.specs.Corners.{interval}
use Rattle.diff_bounds.specs.declared.form.lin.Lin.{Lin}

-- the coefficient of a cell of the pack, counted from 0
abbrev pub coef : Lin → ℕ → ℤ
coef f k = slice_index_or f.coefs k (pos 0)

-- the coefficients times the values, added up over the first n cells
unfoldable pub dot : (ℕ → ℤ) → (ℕ → ℤ) → ℕ → ℤ
dot coefs cells zero = pos 0
dot coefs cells (suc n) = dot coefs cells n +ℤ (coefs n *ℤ cells n)

-- The numbers that the form can be where the cells have these values: those of an interval, as the constant is one.
abbrev pub values : Lin → (ℕ → ℤ) → Interval
values f cells = interval (dot (coef f) cells 8 +ℤ f.constant.low) (dot (coef f) cells 8 +ℤ f.constant.high)

-- the list of the coefficients
unfoldable pub coefs_of : (ℕ → ℤ) → List ℤ
coefs_of coefs = map coefs (range_with_len 0 8)

abbrev pub form_of : (ℕ → ℤ) → Interval → Lin
form_of coefs constant = record { coefs = coefs_of coefs; constant = constant }

-- the form of both parts, where both are there
abbrev pub together : Option (List ℤ) → Option Interval → Option Lin
together (Some coefs) (Some constant) = Some record { coefs = coefs; constant = constant }
together (Some coefs) None = None
together None constant = None

-- ---- forms whose numbers are below 10^37 in absolute value
pub record AreSmallCoefs (coefs : ℕ → ℤ) : Type 0 where
  pub small : (k : ℕ) → k < 8 → IsSmall (coefs k)

pub record IsSmallConstant (i : Interval) : Type 0 where
  pub low : IsSmall i.low
  pub high : IsSmall i.high

pub record IsSmallForm (f : Lin) : Type 0 where
  pub coefs : AreSmallCoefs (coef f)
  pub constant : IsSmallConstant f.constant

abbrev pub is_small : ℤ → Bool
is_small z = nat_lt (unsigned_abs z) (10 ^ 37)

-- the form, where its numbers are small
unfoldable pub if_small : Lin → Option Lin
if_small f = if is_small f.constant.low && (is_small f.constant.high && list_all is_small f.coefs) then Some f else None
