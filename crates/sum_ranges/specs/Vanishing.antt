-- Whether a divisor in a sum may be 0.
use Rattle.std.specs.Prelude.{ℕ, Bool, false, ◌&&◌, ◌||◌, pos, int_le, Option, Some, None}
use Rattle.cob_program.specs.Sum.{Sum, MkSum, Parts, no_parts, more_parts, Part, MkPart, Factors, no_factors, more_factors, MkFactor, Atom, item, number, group}
use Rattle.cob_program.specs.Values.{Root}
use Rattle.sum_ranges.specs.declared.ranged.Ranged.{Ranged}
use Rattle.sum_ranges.specs.SumRanges.{atom_range}

-- A divisor without a range has one in it that holds 0, which is asked on its own.
abbrev pub holds_zero : Option Ranged → Bool
holds_zero None = false
holds_zero (Some a) = int_le a.units.low (pos 0) && int_le (pos 0) a.units.high

module _ (range : ℕ → Ranged) where
  abbrev mutual
    -- whether some divisor in the sum may be 0, those in groups among them
    pub may_vanish : Sum → Bool
    may_vanish (MkSum ps) = may_vanish_in_parts ps

    pub may_vanish_in_parts : Parts → Bool
    may_vanish_in_parts no_parts = false
    may_vanish_in_parts (more_parts p ps) = may_vanish_in_part p || may_vanish_in_parts ps

    pub may_vanish_in_part : Part → Bool
    may_vanish_in_part (MkPart minus fs) = may_vanish_in_product fs

    pub may_vanish_in_product : Factors → Bool
    may_vanish_in_product no_factors = false
    may_vanish_in_product (more_factors (MkFactor over minus atom) fs) =
        may_vanish_in_atom atom || ((over && holds_zero (atom_range range atom)) || may_vanish_in_product fs)

    pub may_vanish_in_atom : Atom → Bool
    may_vanish_in_atom (item place) = false
    may_vanish_in_atom (number n) = false
    may_vanish_in_atom (group s) = may_vanish s

  -- whether the divisor may be 0, or one that stands in it
  abbrev pub may_be_zero : Atom → Bool
  may_be_zero atom = may_vanish_in_atom atom || holds_zero (atom_range range atom)

  -- whether a divisor of a quotient may be 0, the last one among them
  abbrev pub may_vanish_in_root : Root → Bool
  may_vanish_in_root r = may_vanish_in_product r.above || may_be_zero r.below
