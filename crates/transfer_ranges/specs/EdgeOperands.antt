-- The operands of an edge, which are taken once.
use Rattle.std.specs.Prelude.{ℕ, ◌||◌, ◌&&◌, if◌then◌else◌, Bool, true, false, Option, Some, None}
use Rattle.std.specs.Option.{option_map}
use Rattle.cob_program.specs.declared.act.How.TheVariants as how
use Rattle.cob_program.specs.Values.{◌>>=◌}
use Rattle.cob_program.specs.Act.{times, varying, Act, move, arith, perform, write}
use Rattle.cob_runs.specs.declared.action.Action.{Action}
use Rattle.cob_runs.specs.declared.action.Action.TheVariants as action
use Rattle.cob_edge_parts.specs.Parts.{Amount, moved, computed, remaining, augmented, is_under}
use Rattle.sum_ranges.specs.declared.ranged.Ranged.{Ranged}
use Rattle.sum_ranges.specs.SumRanges.{quotient_range}
use Rattle.sum_ranges.specs.Vanishing.{holds_zero, may_vanish}
use Rattle.transfer_ranges.specs.declared.amounts.Taken.{Taken}
use Rattle.transfer_ranges.specs.declared.amounts.AmountRange.{AmountRange}
use Rattle.transfer_ranges.specs.Operands.{alone, is_whole}
use Rattle.transfer_ranges.specs.Stores.{operands, amount_range}

-- The amount that an edge works out of its operands: a sum, or what a sender is. The last quotient of a sum stays exact.
abbrev pub edge_amount : Act → Action → Option Amount
edge_amount (arith s targets remainder size fine) x = Some (computed s how.Whole)
edge_amount (move y places) x = Some (moved y)
edge_amount (perform body (varying after place start by t)) action.Assign = Some (moved start)
edge_amount (perform body (varying after place start by t)) x = Some (augmented by)
edge_amount (perform body (times y)) x = Some (moved y)
edge_amount (write r from) x = option_map moved from
edge_amount _ x = None

module _ (range_at : ℕ → Ranged) (a : Act) (x : Action) where
  -- nothing where a divisor in a sum is 0 alone
  abbrev pub edge_operands : Option Taken
  edge_operands = edge_amount a x >>= operands range_at

-- whether some divisor of a statement's sum may be 0
abbrev pub operands_vanish : (ℕ → Ranged) → Act → Bool
operands_vanish range_at (arith s targets remainder size fine) = may_vanish range_at s
operands_vanish range_at _ = false

-- ---- amounts

-- a quotient that doesn't stay exact
abbrev pub settled_by : Ranged → Option Ranged → Option Taken
settled_by top None = Some (alone top)
settled_by top (Some under) = option_map alone (quotient_range top under)

abbrev pub settled : Taken → Option Taken
settled c = settled_by c.top c.under

-- whether the last quotient stays exact until it is stored
abbrev pub stays_exact : Amount → Bool
stays_exact (computed s h) = is_whole h
stays_exact _ = true

abbrev pub taken_for : Amount → Taken → Option Taken
taken_for a c = if stays_exact a then Some c else settled c

-- what the amount can be, for a receiver whose own numbers are these; nothing where a divisor is 0 alone
abbrev pub amount_of : Amount → Ranged → Taken → Option AmountRange
amount_of a own c = taken_for a c >>= amount_range a own

abbrev pub is_divided : Amount → Bool
is_divided (computed s h) = is_under h
is_divided _ = false

-- whether what divides it may be 0, divisors in the sum aside
abbrev pub may_divide_by_zero : Amount → Taken → Bool
may_divide_by_zero a c = holds_zero c.under || (is_divided a && holds_zero (option_map (λ t. t.top) (settled c)))

abbrev pub is_remainder : Amount → Bool
is_remainder (remaining s scale) = true
is_remainder _ = false
