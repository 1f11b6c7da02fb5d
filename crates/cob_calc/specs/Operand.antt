-- Sums that are no more than one operand.
use Rattle.std.specs.Prelude.{false, Option, Some, None, if◌then◌else◌}
use Rattle.dec_num.specs.declared.types.Scaled.{Scaled}
use Rattle.cob_program.specs.Sum.{Sum, MkSum, more_parts, no_parts, MkPart, Factors, more_factors, no_factors, MkFactor, Atom, item, number}
use Rattle.cob_program.specs.Values.{sum_value}
use Rattle.cob_runs.specs.Computing.{are_numeric, items_in}
use Rattle.cob_calc.specs.Contents.{Contents, amount_at}
use Rattle.cob_calc.specs.declared.operand.Operand.{Operand}
use Rattle.cob_calc.specs.declared.operand.Operand.TheVariants as operand

abbrev pub plain_operand : Operand → Atom
plain_operand (operand.Item place) = item place
plain_operand (operand.Number n) = number n.now

-- a product of this operand alone, and a sum of it alone
abbrev pub only_factor : Atom → Factors
only_factor a = more_factors (MkFactor false false a) no_factors

abbrev pub only : Atom → Sum
only a = MkSum (more_parts (MkPart false (only_factor a)) no_parts)

-- what a sum is worth, where each of its items is numeric
abbrev pub read_sum : Contents → Sum → Option (Option Scaled)
read_sum c s = if are_numeric c.layout c.storage (items_in s) then Some (sum_value (amount_at c) s) else None
