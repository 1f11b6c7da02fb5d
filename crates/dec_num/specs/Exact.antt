-- Exact values: fractions of whole numbers, and what is left of one at a scale.
use Rattle.std.specs.Prelude.{◌≡◌, ℕ, ◌+◌, ◌*◌, ◌/◌, ◌^◌, ◌<◌, ◌≤◌, suc, ℤ, pos, negsuc, neg_ℤ, ◌+ℤ◌, ◌-ℤ◌, ◌*ℤ◌, unsigned_abs}
use Rattle.dec_num.specs.declared.types.Mode.{Mode}
use Rattle.dec_num.specs.declared.types.Mode.TheVariants.{Trunc, Round}

-- the number top / bottom, for a bottom above 0
pub record Fraction : Type 0 where
  pub top : ℤ
  pub bottom : ℕ

-- the two are one number
abbrev pub IsSameNumber : Fraction → Fraction → Type 0
IsSameNumber p q = p.top *ℤ pos q.bottom ≡ q.top *ℤ pos p.bottom

abbrev pub sum_of : Fraction → Fraction → Fraction
sum_of p q = record { top = p.top *ℤ pos q.bottom +ℤ q.top *ℤ pos p.bottom; bottom = p.bottom * q.bottom }

abbrev pub difference_of : Fraction → Fraction → Fraction
difference_of p q = record { top = p.top *ℤ pos q.bottom -ℤ q.top *ℤ pos p.bottom; bottom = p.bottom * q.bottom }

abbrev pub product_of : Fraction → Fraction → Fraction
product_of p q = record { top = p.top *ℤ q.top; bottom = p.bottom * q.bottom }

-- n / d, for a d that isn't 0
abbrev pub ratio_of : ℤ → ℤ → Fraction
ratio_of n (pos d) = record { top = n; bottom = d }
ratio_of n (negsuc d) = record { top = neg_ℤ n; bottom = suc d }

-- top / bottom as a whole number: cut, or the nearest one, and at a half the greater one
abbrev pub rounded : Mode → ℕ → ℕ → ℕ
rounded Trunc top bottom = top / bottom
rounded Round top bottom = (2 * top + bottom) / (2 * bottom)

-- the number of this size, negative where z is
abbrev pub with_sign_of : ℤ → ℕ → ℤ
with_sign_of (pos _) size = pos size
with_sign_of (negsuc _) size = neg_ℤ (pos size)

-- the size of v * 10 ^ up as a whole number
abbrev pub near_size : Mode → Fraction → ℤ → ℕ
near_size mode v (pos k) = rounded mode (unsigned_abs v.top * 10 ^ k) v.bottom
near_size mode v (negsuc k) = rounded mode (unsigned_abs v.top) (v.bottom * 10 ^ suc k)

-- v * 10 ^ up, cut towards zero or rounded half away from zero: v in units of the scale `up`
abbrev pub near : Mode → Fraction → ℤ → ℤ
near mode v up = with_sign_of v.top (near_size mode v up)

-- `rounded` by inequalities. Cut: size ≤ top / bottom < size + 1.
-- Rounded: size - 1/2 ≤ top / bottom < size + 1/2
abbrev pub IsRounded : Mode → ℕ → ℕ → ℕ → Type 0
IsRounded Trunc top bottom size = (size * bottom ≤ top) × (top < (size + 1) * bottom)
IsRounded Round top bottom size = (2 * size * bottom ≤ 2 * top + bottom) × (2 * top < (2 * size + 1) * bottom)

-- `near_size` by inequalities: of absolute values, so a cut goes towards zero and a half away from it
abbrev pub IsNearSize : Mode → Fraction → ℤ → ℕ → Type 0
IsNearSize mode v (pos k) size = IsRounded mode (unsigned_abs v.top * 10 ^ k) v.bottom size
IsNearSize mode v (negsuc k) size = IsRounded mode (unsigned_abs v.top) (v.bottom * 10 ^ suc k) size
