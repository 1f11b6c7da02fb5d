-- What the working of ranges needs.
use Rattle.std.specs.Prelude.{◌≡◌, ◌≢◌, ◌⊎◌, ℕ, ◌+◌, ◌≤◌, ◌&&◌, ◌||◌, pos, Bool, true, false, Option}
use Rattle.dec_num.specs.declared.types.Mode.TheVariants.{Trunc}
use Rattle.interval_domain.specs.Bounds.{IsInterval}
use Rattle.interval_domain.specs.Results.{IsSum, IsProduct, IsQuotient, AreSmall}
use Rattle.cob_program.specs.Sum.{Parts, Factors, Factor, MkFactor, Atom}
use Rattle.cob_program.specs.Values.{quotient_scale, ◌>>=◌}
use Rattle.cob_program.specs.Bounds.{Bound, is_small, is_small_sum_from, is_small_product}
use Rattle.sum_ranges.specs.declared.ranged.Ranged.{Ranged}
use Rattle.sum_ranges.specs.SumRanges.{turned, raised, joint, shift, factor_range, atom_range}
use Rattle.sum_ranges.specs.Sizes.{IsRangeWithin}
use Rattle.sum_ranges.specs.Vanishing.{holds_zero, may_vanish_in_atom}

-- both are small at the greater scale, and so are their sums
pub record CanAddRanges (a b : Ranged) : Type 0 where
  pub left : IsInterval (raised a (joint a b))
  pub right : IsInterval (raised b (joint a b))
  pub sums : AreSmall (IsSum (raised a (joint a b)) (raised b (joint a b)))
  pub scale : joint a b ≤ 37

pub record CanMultiplyRanges (a b : Ranged) : Type 0 where
  pub left : IsInterval a.units
  pub right : IsInterval b.units
  pub products : AreSmall (IsProduct a.units b.units)
  pub scale : a.scale + b.scale ≤ 37

-- small quotients of small numbers, for which no more than 55 decimals have to be found
pub record CanDivideRanges (a b : Ranged) : Type 0 where
  pub left : IsInterval a.units
  pub right : IsInterval b.units
  pub quotients : AreSmall (IsQuotient a.units b.units (pos (shift a b)) Trunc)
  pub scale : quotient_scale a.scale b.scale ≤ 37
  pub digits : (a.units.low ≢ pos 0) ⊎ (a.units.high ≢ pos 0) → shift a b ≤ 55

-- products or quotients
abbrev pub CanScaleRange : Bool → Ranged → Ranged → Type 0
CanScaleRange false a b = CanMultiplyRanges a b
CanScaleRange true a b = CanDivideRanges a b

-- ---- sums

-- each item's range lies within its bound
pub record AreBounded (range : ℕ → Ranged) (bound : ℕ → Bound) : Type 0 where
  pub held : (place : ℕ) → IsRangeWithin (range place) (bound place)

-- a range with one factor more; nothing where the factor is a divisor that is 0 alone
abbrev pub one_factor_range : (ℕ → Ranged) → Ranged → Factor → Option Ranged
one_factor_range range a (MkFactor over minus atom) = atom_range range atom >>= λ b. factor_range over a (turned minus b)

-- A range, with a bound from which on the factors left keep the rule of bounds.
pub record HasRoom (bound : ℕ → Bound) (a : Ranged) (fs : Factors) : Type 0 where
  pub most : Bound
  pub within : IsRangeWithin a most
  pub small : is_small most ≡ true
  pub factors : is_small_product bound most fs ≡ true

-- There is room for each product that is added.
pub record HasRoomInSum (bound : ℕ → Bound) (a : Ranged) (ps : Parts) : Type 0 where
  pub most : Bound
  pub within : IsRangeWithin a most
  pub small : is_small most ≡ true
  pub parts : is_small_sum_from bound most ps ≡ true

-- From some bound on the factors keep the rule of bounds.
pub record HasSmallFactors (bound : ℕ → Bound) (fs : Factors) : Type 0 where
  pub most : Bound
  pub factors : is_small_product bound most fs ≡ true

pub record HasSmallParts (bound : ℕ → Bound) (ps : Parts) : Type 0 where
  pub most : Bound
  pub parts : is_small_sum_from bound most ps ≡ true

-- ---- divisors

abbrev pub operand : Factor → Atom
operand (MkFactor over minus atom) = atom

-- whether the factor is a divisor that may be 0, or one in it may be
abbrev pub may_vanish_in_factor : (ℕ → Ranged) → Factor → Bool
may_vanish_in_factor range (MkFactor over minus atom) = may_vanish_in_atom range atom || (over && holds_zero (atom_range range atom))
