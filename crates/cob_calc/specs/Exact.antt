-- Values as they are stored: exact, and then cut or rounded to a receiver's digits.
use Rattle.std.specs.Prelude.{◌≢◌, ℕ, ◌^◌, ◌==◌, nat_lt, if◌then◌else◌, ℤ, pos, ◌*ℤ◌, unsigned_abs, Option, Some, None}
use Rattle.dec_num.specs.declared.types.Mode.{Mode}
use Rattle.dec_num.specs.declared.types.Scaled.{Scaled}
use Rattle.dec_num.specs.Exact.{Fraction, ratio_of, near}
use Rattle.dec_num.specs.Scaled.{value_of}
use Rattle.cob_program.specs.Sum.{Sum}
use Rattle.cob_program.specs.Values.{whole_number, negated, ◌>>=◌, sum_value, product_from, atom_value, Root, root_of, exact_quotient}
use Rattle.cob_program.specs.Bounds.{IsSmall}
use Rattle.cob_calc.specs.declared.exact.Exact.{Exact}
use Rattle.cob_calc.specs.declared.exact.Exact.TheVariants as exact

-- what a number or a quotient is
abbrev pub fraction_of : Exact → Fraction
fraction_of (exact.Number v) = value_of v
fraction_of (exact.Quotient n d) = ratio_of (n.units *ℤ pos (10 ^ d.scale)) (d.units *ℤ pos (10 ^ n.scale))

pub record IsSmallQuotient (n d : Scaled) : Type 0 where
  pub top : IsSmall n
  pub bottom : IsSmall d
  pub some : d.units ≢ pos 0

abbrev pub IsSmallExact : Exact → Type 0
IsSmallExact (exact.Number v) = IsSmall v
IsSmallExact (exact.Quotient n d) = IsSmallQuotient n d

-- a quotient that stays exact; nothing where the divisor is 0
abbrev pub quotient_if : Scaled → Scaled → Option Exact
quotient_if n d = if unsigned_abs d.units == 0 then None else Some (exact.Quotient n d)

-- units that so many digits hold
abbrev pub held : ℕ → ℤ → Option ℤ
held digits units = if nat_lt (unsigned_abs units) (10 ^ digits) then Some units else None

-- a value in units of a receiver's scale, where its digits hold them
abbrev pub units_held : ℕ → ℕ → Mode → Fraction → Option ℤ
units_held digits scale mode v = held digits (near mode v (pos scale))

-- ---- the last operation of a sum, where it is a quotient

abbrev pub root_value : (ℕ → Scaled) → Root → Option Fraction
root_value worth r =
    product_from worth (whole_number (pos 1)) r.above >>= λ n. atom_value worth r.below >>= λ d. exact_quotient n (negated r.minus d)

-- what is stored of a sum, before it is cut or rounded
abbrev pub exact_root : (ℕ → Scaled) → Root → Option Exact
exact_root worth r = product_from worth (whole_number (pos 1)) r.above >>= λ n. atom_value worth r.below >>= λ d. quotient_if n (negated r.minus d)

abbrev pub exact_from : (ℕ → Scaled) → Sum → Option Root → Option Exact
exact_from worth s None = sum_value worth s >>= λ v. Some (exact.Number v)
exact_from worth s (Some r) = exact_root worth r

abbrev pub exact_value : (ℕ → Scaled) → Sum → Option Exact
exact_value worth s = exact_from worth s (root_of s)
