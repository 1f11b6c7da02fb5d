-- What the arithmetic works with.
use Rattle.std.specs.Prelude.{Bool, true}
use Rattle.cob_program.specs.Sum.{Sum, MkSum, no_parts, more_parts, MkPart, no_factors, more_factors, MkFactor}
use Rattle.sum_ranges.specs.Sizes.{IsSmallRange}
use Rattle.sum_forms.specs.Literals.{is_short}
use Rattle.transfer_ranges.specs.declared.amounts.Taken.{Taken}

-- What was taken is small; of a quotient that stays exact what is divided.
abbrev pub HasSmallTop : Taken → Type 0
HasSmallTop t = IsSmallRange t.top

-- A sum that is one literal has a short one.
abbrev pub is_short_whole : Sum → Bool
is_short_whole (MkSum (more_parts (MkPart minus (more_factors (MkFactor over m atom) no_factors)) no_parts)) = is_short atom
is_short_whole _ = true
