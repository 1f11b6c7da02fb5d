-- What the demand that a linear form is at most 0 makes of a matrix.
use Rattle.std.specs.Prelude.{◌≡◌, ℕ, zero, suc, ◌≤◌, nat_eq, if◌then◌else◌, ℤ, pos, negsuc, neg_ℤ, ◌≤ℤ◌, Option, Some, None}
use Rattle.std.specs.Int.{int_min, int_div_euclid}
use Rattle.diff_bounds.specs.declared.form.lin.Lin.{Lin}
use Rattle.diff_bounds.specs.Numbers.{word_of}
use Rattle.diff_bounds.specs.Upper.{without, upper, coef_at}
use Rattle.diff_bounds.specs.Values.{values_in}
use Rattle.diff_bounds.specs.Assigned.{negated, AreOperands}

-- rounded down
abbrev pub divided : Option ℤ → ℕ → Option ℤ
divided (Some u) d = Some (int_div_euclid u (pos d))
divided None d = None

abbrev pub if_positive : ℤ → Option ℕ
if_positive (pos (suc k)) = Some (suc k)
if_positive _ = None

abbrev pub if_negative : ℤ → Option ℕ
if_negative (negsuc k) = Some (suc k)
if_negative _ = None

abbrev pub if_opposite : ℤ → ℤ → Option ℕ
if_opposite (pos (suc k)) (negsuc j) = if nat_eq k j then Some (suc k) else None
if_opposite _ _ = None

-- k, where the form has k times the value at i less the value at j; place 0 stands for the number 0
abbrev pub factor : (ℕ → ℤ) → ℕ → ℕ → Option ℕ
factor c zero zero = None
factor c zero (suc j) = if_negative (c (suc j))
factor c (suc i) zero = if_positive (c (suc i))
factor c (suc i) (suc j) = if_opposite (c (suc i)) (c (suc j))

abbrev pub demanded_by : (ℕ → ℕ → ℤ) → (ℕ → ℤ) → ℤ → ℕ → ℕ → ℕ → Option ℕ → Option ℤ
demanded_by w c low n i j (Some d) = divided (upper w (negated (without i j c)) (neg_ℤ low) n) d
demanded_by w c low n i j None = None

-- what the difference of two values is at most where the form is at most 0: the bound of the other terms negated,
-- divided by the factor of the difference
abbrev pub demanded : (ℕ → ℕ → ℤ) → (ℕ → ℤ) → ℤ → ℕ → ℕ → ℕ → Option ℤ
demanded w c low n i j = demanded_by w c low n i j (factor c i j)

-- each word is lowered by a bound that the old matrix shows
abbrev pub lowered : (ℕ → ℕ → ℤ) → (ℕ → ℤ) → ℤ → ℕ → ℕ → ℕ → ℤ
lowered w c low n i j = int_min (w i j) (word_of (demanded w c low n i j))

pub record AreDemanded (size : ℕ) (w : ℕ → ℕ → ℤ) (form : Lin) (u : ℕ → ℕ → ℤ) : Type 0 where
  pub words : (i j : ℕ) → i ≤ size → j ≤ size → u i j ≡ lowered w (coef_at form.coefs) form.constant.low size i j

-- the form can be a number of at most 0
pub record IsMet (size : ℕ) (cells : ℕ → Option ℤ) (form : Lin) : Type 0 where
  pub operands : AreOperands size cells form
  pub holds : (values_in form cells).low ≤ℤ pos 0
