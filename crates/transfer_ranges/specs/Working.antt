-- Amounts that can be worked out.
use Rattle.std.specs.Prelude.{◌≡◌, Bool, true, false, Option, IfSome}
use Rattle.std.specs.Option.{option_map_or}
use Rattle.dec_num.specs.declared.types.Mode.{Mode}
use Rattle.interval_domain.specs.declared.bounds.Interval.{Interval}
use Rattle.cob_program.specs.Values.{◌>>=◌}
use Rattle.cob_edge_parts.specs.Parts.{Amount, computed, augmented}
use Rattle.sum_ranges.specs.declared.ranged.Ranged.{Ranged}
use Rattle.sum_ranges.specs.Working.{CanAddRanges, CanDivideRanges}
use Rattle.sum_ranges.specs.declared.taking.Taken as sum
use Rattle.transfer_ranges.specs.declared.amounts.Taken.{Taken}
use Rattle.transfer_ranges.specs.declared.amounts.AmountRange.{AmountRange}
use Rattle.transfer_ranges.specs.declared.amounts.Receiver.{Receiver}
use Rattle.transfer_ranges.specs.ResultRanges.{result_range, may_fail}
use Rattle.transfer_ranges.specs.Sizes.{CanCompute}
use Rattle.transfer_ranges.specs.EdgeOperands.{stays_exact, taken_for, amount_of, may_divide_by_zero}

-- what is taken of a sum, for a store
abbrev pub for_store : sum.Taken → Taken
for_store t = record { top = t.top; under = t.under }

-- a quotient that doesn't stay exact can be cut
abbrev pub CanSettle : Taken → Type 0
CanSettle t = IfSome t.under (λ under. CanDivideRanges t.top under)

-- an amount for which a quotient doesn't stay exact
abbrev pub CanSettleFor : Amount → Taken → Type 0
CanSettleFor a t = stays_exact a ≡ false → CanSettle t

abbrev pub CanGive : Amount → Ranged → Taken → Type 0
CanGive (computed s how) own t = CanCompute how own t
CanGive (augmented x) own t = CanAddRanges own t.top
CanGive _ own t = Unit {0}

pub record CanWork (a : Amount) (own : Ranged) (t : Taken) : Type 0 where
  pub settled : CanSettleFor a t
  pub given : IfSome (taken_for a t) (CanGive a own)

-- ---- stores, by what was taken

-- what a receiver whose own numbers are these is to get
abbrev pub amount_from : Option Taken → Amount → Ranged → Option AmountRange
amount_from common a own = common >>= amount_of a own

-- the units that the receiver gets, where some result fits
abbrev pub units_from : Mode → Receiver → Option AmountRange → Option Interval
units_from mode r a = a >>= result_range mode r

-- some result doesn't fit, or there is none
abbrev pub exceeds_from : Mode → Receiver → Option AmountRange → Bool
exceeds_from mode r a = option_map_or (may_fail mode r) a true

-- what divides may be 0, which it may where nothing is known
abbrev pub may_vanish : Option Taken → Amount → Bool
may_vanish common amount = option_map_or (may_divide_by_zero amount) common true
