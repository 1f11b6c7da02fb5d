-- Literals among the factors of a product.
use Rattle.std.specs.Prelude.{◌^◌, Bool, true, false, ◌&&◌, if◌then◌else◌, ℤ, pos, ◌*ℤ◌, int_le, Option, Some, None, is_some}
use Rattle.std.specs.Int.{int_div_euclid}
use Rattle.dec_num.specs.declared.types.Scaled.{Scaled}
use Rattle.cob_program.specs.Sum.{Factors, no_factors, more_factors, MkFactor, Atom, item, number, group}
use Rattle.cob_program.specs.Bounds.{is_small, literal_bound}
use Rattle.cob_program.specs.Values.{negated, literal, ◌>>=◌}

-- rounded down to a whole number
abbrev pub whole_part : Scaled → ℤ
whole_part v = int_div_euclid v.units (pos (10 ^ v.scale))

-- the whole number that a decimal is, if it is one
abbrev pub whole_of : Scaled → Option ℤ
whole_of v = if int_le v.units (whole_part v *ℤ pos (10 ^ v.scale)) then Some (whole_part v) else None

abbrev pub literal_in : Atom → Option Scaled
literal_in (item place) = None
literal_in (number n) = Some (literal n)
literal_in (group s) = None

-- the whole number that a factor multiplies by, where it is a literal
abbrev pub whole_factor : Bool → Bool → Atom → Option ℤ
whole_factor true minus atom = None
whole_factor false minus atom = literal_in atom >>= λ v. whole_of (negated minus v)

abbrev pub are_literals : Factors → Bool
are_literals no_factors = true
are_literals (more_factors (MkFactor over minus atom) fs) = is_some (literal_in atom) && are_literals fs

-- whether the arithmetic can work with a literal
abbrev pub is_short : Atom → Bool
is_short (item place) = true
is_short (number n) = is_small (literal_bound n)
is_short (group s) = true
