-- What the assignment of a linear form to a cell makes of a matrix.
use Rattle.std.specs.Prelude.{◌≡◌, ◌≢◌, ℕ, zero, suc, ◌<◌, ◌≤◌, nat_eq, if◌then◌else◌, ℤ, pos, neg_ℤ, ◌-ℤ◌, Option, Some, None}
use Rattle.interval_domain.specs.Bounds.{Holds}
use Rattle.diff_bounds.specs.declared.form.lin.Lin.{Lin}
use Rattle.diff_bounds.specs.Forms.{is_small}
use Rattle.diff_bounds.specs.Numbers.{word_of}
use Rattle.diff_bounds.specs.Upper.{upper, coef_at}
use Rattle.diff_bounds.specs.Values.{HasValue, values_in}

-- the coefficients of the form less the value at a place; place 0 stands for the number 0
abbrev pub less_place : ℕ → (ℕ → ℤ) → ℕ → ℤ
less_place zero c k = c k
less_place (suc j) c k = if nat_eq k (suc j) then c k -ℤ pos 1 else c k

abbrev pub negated : (ℕ → ℤ) → ℕ → ℤ
negated c k = neg_ℤ (c k)

-- the bound of the form less the value at a place; none where its coefficient there isn't small
abbrev pub upper_less : (ℕ → ℕ → ℤ) → ℕ → (ℕ → ℤ) → ℤ → ℕ → Option ℤ
upper_less w j c high n = if is_small (less_place j c j) then upper w (less_place j c) high n else None

-- the bound of the value at a place less the form
abbrev pub less_upper : (ℕ → ℕ → ℤ) → ℕ → (ℕ → ℤ) → ℤ → ℕ → Option ℤ
less_upper w i c low n = if is_small (less_place i c i) then upper w (negated (less_place i c)) (neg_ℤ low) n else None

-- The words of the cell's row and column are bounds that the old matrix shows. The others are as they were.
pub record AreAssigned (size : ℕ) (w : ℕ → ℕ → ℤ) (to : ℕ) (form : Lin) (u : ℕ → ℕ → ℤ) : Type 0 where
  pub row : (j : ℕ) → j ≤ size → j ≢ to → u to j ≡ word_of (upper_less w j (coef_at form.coefs) form.constant.high size)
  pub column : (i : ℕ) → i ≤ size → i ≢ to → u i to ≡ word_of (less_upper w i (coef_at form.coefs) form.constant.low size)
  pub others : (i j : ℕ) → i ≤ size → j ≤ size → i ≢ to → j ≢ to → u i j ≡ w i j

-- the values of the cells once z is assigned to one of them
abbrev pub with_value : (ℕ → Option ℤ) → ℕ → ℤ → ℕ → Option ℤ
with_value cells to z k = if nat_eq k to then Some z else cells k

-- each cell with a coefficient has a value
pub record AreOperands (size : ℕ) (cells : ℕ → Option ℤ) (form : Lin) : Type 0 where
  pub values : (j : ℕ) → 0 < j → j ≤ size → coef_at form.coefs j ≢ pos 0 → HasValue (cells j)

-- z is one of the numbers that the form can be
pub record IsValue (size : ℕ) (cells : ℕ → Option ℤ) (form : Lin) (z : ℤ) : Type 0 where
  pub operands : AreOperands size cells form
  pub held : Holds (values_in form cells) z
