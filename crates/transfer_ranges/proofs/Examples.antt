-- Results worked out by hand.
use Rattle.std.proofs.Common.{◌≡◌, ℕ, Bool, true, false, ℤ, pos, neg_ℤ, Option, Some, None, refl}
use Rattle.dec_num.specs.declared.types.Mode.{Mode}
use Rattle.dec_num.specs.declared.types.Mode.TheVariants.{Trunc, Round}
use Rattle.interval_domain.specs.declared.bounds.Interval.{Interval}
use Rattle.interval_domain.specs.Corners.{interval}
use Rattle.cob_program.specs.declared.act.How.TheVariants as how
use Rattle.sum_ranges.specs.declared.ranged.Ranged.{Ranged}
use Rattle.sum_ranges.specs.Ranged.{ranged}
use Rattle.transfer_ranges.specs.declared.amounts.AmountRange.{AmountRange}
use Rattle.transfer_ranges.specs.declared.amounts.AmountRange.TheVariants as range
use Rattle.transfer_ranges.specs.declared.amounts.Receiver.{Receiver}
use Rattle.transfer_ranges.specs.Receivers.{receiver}
use Rattle.transfer_ranges.specs.Amounts.{taken}
use Rattle.transfer_ranges.specs.Operands.{alone, computed_range}
use Rattle.transfer_ranges.specs.ResultRanges.{result_range, may_fail, lowered, count_range, count_may_fail}

-- units from the first to the second, of a scale
abbrev cell : ℤ → ℤ → ℕ → Ranged
cell low high scale = ranged (interval low high) scale

-- what a store makes of an amount: the receiver's units, and whether some result doesn't fit
record Gives (mode : Mode) (r : Receiver) (a : AmountRange) (units : Option Interval) (fails : Bool) : Type 0 where
  stored : result_range mode r a ≡ units
  failing : may_fail mode r a ≡ fails

-- ---- decimals

-- 1.5 to 2.7 for 9
cut : Gives Trunc (receiver 1 0 false) (range.Decimal (cell (pos 15) (pos 27) 1)) (Some (interval (pos 1) (pos 2))) false
cut = record { stored = refl; failing = refl }

-- and rounded
rounded : Gives Round (receiver 1 0 false) (range.Decimal (cell (pos 15) (pos 27) 1)) (Some (interval (pos 2) (pos 3))) false
rounded = record { stored = refl; failing = refl }

-- -1.5 to -0.5 is cut towards 0
below_zero_cut : Gives Trunc (receiver 1 0 true) (range.Decimal (cell (neg_ℤ (pos 15)) (neg_ℤ (pos 5)) 1)) (Some (interval (neg_ℤ (pos 1)) (pos 0))) false
below_zero_cut = record { stored = refl; failing = refl }

-- and rounded away from it
below_zero_rounded : Gives Round (receiver 1 0 true) (range.Decimal (cell (neg_ℤ (pos 15)) (neg_ℤ (pos 5)) 1)) (Some (interval (neg_ℤ (pos 2)) (neg_ℤ (pos 1)))) false
below_zero_rounded = record { stored = refl; failing = refl }

-- -2.7 to 1.4 rounded is -3 to 1, whose absolute values are 0 to 3
across_zero_unsigned : Gives Round (receiver 1 0 false) (range.Decimal (cell (neg_ℤ (pos 27)) (pos 14) 1)) (Some (interval (pos 0) (pos 3))) false
across_zero_unsigned = record { stored = refl; failing = refl }

-- -2.7 to -1.4 cut is -2 to -1
below_zero_unsigned : Gives Trunc (receiver 1 0 false) (range.Decimal (cell (neg_ℤ (pos 27)) (neg_ℤ (pos 14)) 1)) (Some (interval (pos 1) (pos 2))) false
below_zero_unsigned = record { stored = refl; failing = refl }

-- 9.5 to 10.4 for 9: 9 fits, 10 doesn't
last_digit_cut : Gives Trunc (receiver 1 0 false) (range.Decimal (cell (pos 95) (pos 104) 1)) (Some (interval (pos 9) (pos 9))) true
last_digit_cut = record { stored = refl; failing = refl }

-- 10 alone doesn't fit
last_digit_rounded : Gives Round (receiver 1 0 false) (range.Decimal (cell (pos 95) (pos 104) 1)) (None) true
last_digit_rounded = record { stored = refl; failing = refl }

-- 5 to 20 for 9V9: 5.0 to 9.9
raised : Gives Trunc (receiver 2 1 false) (range.Decimal (cell (pos 5) (pos 20) 0)) (Some (interval (pos 50) (pos 99))) true
raised = record { stored = refl; failing = refl }

-- 0.15 to 0.25 for V9, rounded
half_up : Gives Round (receiver 1 1 false) (range.Decimal (cell (pos 15) (pos 25) 2)) (Some (interval (pos 2) (pos 3))) false
half_up = record { stored = refl; failing = refl }

-- -12 to -3 for S9
low_end_alone : Gives Trunc (receiver 1 0 true) (range.Decimal (cell (neg_ℤ (pos 12)) (neg_ℤ (pos 3)) 0)) (Some (interval (neg_ℤ (pos 9)) (neg_ℤ (pos 3)))) true
low_end_alone = record { stored = refl; failing = refl }

-- 0 to 10^18 - 1 for 9(18)
most_fits : Gives Trunc (receiver 18 0 false) (range.Decimal (cell (pos 0) (pos 999999999999999999) 0)) (Some (interval (pos 0) (pos 999999999999999999))) false
most_fits = record { stored = refl; failing = refl }

-- 0 to 10^18
one_more : Gives Trunc (receiver 18 0 false) (range.Decimal (cell (pos 0) (pos 1000000000000000000) 0)) (Some (interval (pos 0) (pos 999999999999999999))) true
one_more = record { stored = refl; failing = refl }

-- all that arithmetic works with
greatest_intermediates : Gives Trunc (receiver 18 0 true) (range.Decimal (cell (neg_ℤ (pos 9999999999999999999999999999999999999)) (pos 9999999999999999999999999999999999999) 0)) (Some (interval (neg_ℤ (pos 999999999999999999)) (pos 999999999999999999))) true
greatest_intermediates = record { stored = refl; failing = refl }

-- (10^37 - 1) / 10^19 is just below 10^18
close_below_cut : Gives Trunc (receiver 18 0 true) (range.Decimal (cell (pos 9999999999999999999999999999999999999) (pos 9999999999999999999999999999999999999) 19)) (Some (interval (pos 999999999999999999) (pos 999999999999999999))) false
close_below_cut = record { stored = refl; failing = refl }

-- and rounded up to it
close_below_rounded : Gives Round (receiver 18 0 true) (range.Decimal (cell (pos 9999999999999999999999999999999999999) (pos 9999999999999999999999999999999999999) 19)) (None) true
close_below_rounded = record { stored = refl; failing = refl }

-- -(1 - 10^-37) to -10^-37
close_to_one_cut : Gives Trunc (receiver 1 0 true) (range.Decimal (cell (neg_ℤ (pos 9999999999999999999999999999999999999)) (neg_ℤ (pos 1)) 37)) (Some (interval (pos 0) (pos 0))) false
close_to_one_cut = record { stored = refl; failing = refl }

-- rounded
close_to_one_rounded : Gives Round (receiver 1 0 true) (range.Decimal (cell (neg_ℤ (pos 9999999999999999999999999999999999999)) (neg_ℤ (pos 1)) 37)) (Some (interval (neg_ℤ (pos 1)) (pos 0))) false
close_to_one_rounded = record { stored = refl; failing = refl }

-- ---- quotients

-- 20 / 3 for 9V99
two_thirds_cut : Gives Trunc (receiver 3 2 false) (range.Quotient (cell (pos 20) (pos 20) 0) (cell (pos 3) (pos 3) 0)) (Some (interval (pos 666) (pos 666))) false
two_thirds_cut = record { stored = refl; failing = refl }

two_thirds_rounded : Gives Round (receiver 3 2 false) (range.Quotient (cell (pos 20) (pos 20) 0) (cell (pos 3) (pos 3) 0)) (Some (interval (pos 667) (pos 667))) false
two_thirds_rounded = record { stored = refl; failing = refl }

-- 1 or 2, over 3 or 4, for V99: 0.25 to 0.66
least_and_greatest : Gives Trunc (receiver 2 2 false) (range.Quotient (cell (pos 1) (pos 2) 0) (cell (pos 3) (pos 4) 0)) (Some (interval (pos 25) (pos 66))) false
least_and_greatest = record { stored = refl; failing = refl }

-- 1 over -2 to 4, without 0: -1 to 1
straddling_divisor : Gives Trunc (receiver 3 2 true) (range.Quotient (cell (pos 1) (pos 1) 0) (cell (neg_ℤ (pos 2)) (pos 4) 0)) (Some (interval (neg_ℤ (pos 100)) (pos 100))) false
straddling_divisor = record { stored = refl; failing = refl }

-- -7 over 1 or 2, rounded: -7 to -4
divisor_from_zero : Gives Round (receiver 1 0 true) (range.Quotient (cell (neg_ℤ (pos 7)) (neg_ℤ (pos 7)) 0) (cell (pos 0) (pos 2) 0)) (Some (interval (neg_ℤ (pos 7)) (neg_ℤ (pos 4)))) false
divisor_from_zero = record { stored = refl; failing = refl }

-- 1 to 9 over -3 to -1: -9 to 0
divisor_to_zero : Gives Trunc (receiver 1 0 false) (range.Quotient (cell (pos 1) (pos 9) 0) (cell (neg_ℤ (pos 3)) (pos 0) 0)) (Some (interval (pos 0) (pos 9))) false
divisor_to_zero = record { stored = refl; failing = refl }

-- 0.4999995 is 0; at six decimals first it would be 1
rounded_once : Gives Round (receiver 1 0 false) (range.Quotient (cell (pos 4999995) (pos 4999995) 0) (cell (pos 10000000) (pos 10000000) 0)) (Some (interval (pos 0) (pos 0))) false
rounded_once = record { stored = refl; failing = refl }

-- 1 / 0.03, rounded
finer_divisor : Gives Round (receiver 2 0 false) (range.Quotient (cell (pos 1) (pos 1) 0) (cell (pos 3) (pos 3) 2)) (Some (interval (pos 33) (pos 33))) false
finer_divisor = record { stored = refl; failing = refl }

-- (10^37 - 1) / 0.1 has 38 digits
beyond_all_digits : Gives Trunc (receiver 18 0 true) (range.Quotient (cell (pos 1) (pos 9999999999999999999999999999999999999) 0) (cell (pos 1) (pos 1) 1)) (Some (interval (pos 10) (pos 999999999999999999))) true
beyond_all_digits = record { stored = refl; failing = refl }

-- 1 / 10^-37
far_beyond : Gives Trunc (receiver 18 0 true) (range.Quotient (cell (pos 1) (pos 1) 0) (cell (pos 1) (pos 1) 37)) (None) true
far_beyond = record { stored = refl; failing = refl }

-- a divisor that is 0 alone: no result, and none that doesn't fit
no_divisor : Gives Trunc (receiver 1 0 true) (range.Quotient (cell (pos 1) (pos 9) 0) (cell (pos 0) (pos 0) 0)) (None) false
no_divisor = record { stored = refl; failing = refl }

-- ---- remainders

-- 7 less 2 times 3
one_left : Gives Trunc (receiver 1 0 false) (range.Remainder (cell (pos 7) (pos 7) 0) (cell (pos 2) (pos 2) 0) 0) (Some (interval (pos 1) (pos 1))) false
one_left = record { stored = refl; failing = refl }

-- 0 to 9 by 2 or 3: -12 to 9 by the operations, and less than a divisor
less_than_divisor : Gives Trunc (receiver 1 0 true) (range.Remainder (cell (pos 0) (pos 9) 0) (cell (pos 2) (pos 3) 0) 0) (Some (interval (neg_ℤ (pos 2)) (pos 2))) false
less_than_divisor = record { stored = refl; failing = refl }

-- by -5 to 2
divisor_of_greatest_size : Gives Trunc (receiver 1 0 true) (range.Remainder (cell (pos 0) (pos 9) 0) (cell (neg_ℤ (pos 5)) (pos 2) 0) 0) (Some (interval (neg_ℤ (pos 4)) (pos 4))) false
divisor_of_greatest_size = record { stored = refl; failing = refl }

-- 0 to 9999 by 100: two digits hold what is left
below_hundred : Gives Trunc (receiver 2 0 false) (range.Remainder (cell (pos 0) (pos 9999) 0) (cell (pos 100) (pos 100) 0) 0) (Some (interval (pos 0) (pos 99))) false
below_hundred = record { stored = refl; failing = refl }

-- 0.00 to 9.99 by 3: less than 3 in hundredths
below_in_decimals : Gives Trunc (receiver 3 2 false) (range.Remainder (cell (pos 0) (pos 999) 2) (cell (pos 3) (pos 3) 0) 0) (Some (interval (pos 0) (pos 299))) false
below_in_decimals = record { stored = refl; failing = refl }

-- 0 to 9 by 4 with one decimal: less than 0.4
below_a_decimal : Gives Trunc (receiver 1 1 true) (range.Remainder (cell (pos 0) (pos 9) 0) (cell (pos 4) (pos 4) 0) 1) (Some (interval (neg_ℤ (pos 3)) (pos 3))) false
below_a_decimal = record { stored = refl; failing = refl }

-- 1 by 3 with two decimals: 0.33, and 0.01 is left
at_decimals : Gives Trunc (receiver 2 2 false) (range.Remainder (cell (pos 1) (pos 1) 0) (cell (pos 3) (pos 3) 0) 2) (Some (interval (pos 1) (pos 1))) false
at_decimals = record { stored = refl; failing = refl }

-- 12.345 less 2 times 6
finer_dividend : Gives Trunc (receiver 4 3 false) (range.Remainder (cell (pos 12345) (pos 12345) 3) (cell (pos 2) (pos 2) 0) 0) (Some (interval (pos 345) (pos 345))) false
finer_dividend = record { stored = refl; failing = refl }

-- 0.345 for 9V9
left_and_cut : Gives Trunc (receiver 2 1 false) (range.Remainder (cell (pos 12345) (pos 12345) 3) (cell (pos 2) (pos 2) 0) 0) (Some (interval (pos 3) (pos 3))) false
left_and_cut = record { stored = refl; failing = refl }

-- -7 less 2 times -3
left_below_zero : Gives Trunc (receiver 1 0 true) (range.Remainder (cell (neg_ℤ (pos 7)) (neg_ℤ (pos 7)) 0) (cell (pos 2) (pos 2) 0) 0) (Some (interval (neg_ℤ (pos 1)) (neg_ℤ (pos 1)))) false
left_below_zero = record { stored = refl; failing = refl }

-- by 0 alone
nothing_left : Gives Trunc (receiver 1 0 true) (range.Remainder (cell (pos 7) (pos 7) 0) (cell (pos 0) (pos 0) 0) 0) (None) false
nothing_left = record { stored = refl; failing = refl }

-- ---- by what a receiver is worth

-- 0.1 or 0.2, and 0.05 added, for V9
added : Gives Round (receiver 1 1 false) (computed_range how.Plus (cell (pos 1) (pos 2) 1) (alone (cell (pos 5) (pos 5) 2))) (Some (interval (pos 2) (pos 3))) false
added = record { stored = refl; failing = refl }

-- 3 to 5 taken away from 10
taken_away : Gives Trunc (receiver 1 0 true) (computed_range how.Minus (cell (pos 10) (pos 10) 0) (alone (cell (pos 3) (pos 5) 0))) (Some (interval (pos 5) (pos 7))) false
taken_away = record { stored = refl; failing = refl }

-- -2 to 3 times -1 to 4
multiplied : Gives Trunc (receiver 2 0 true) (computed_range how.Times (cell (neg_ℤ (pos 2)) (pos 3) 0) (alone (cell (neg_ℤ (pos 1)) (pos 4) 0))) (Some (interval (neg_ℤ (pos 8)) (pos 12))) false
multiplied = record { stored = refl; failing = refl }

-- 10 over 3 or 4, rounded: 2.5 becomes 3
divided : Gives Round (receiver 1 0 false) (computed_range how.Under (cell (pos 10) (pos 10) 0) (alone (cell (pos 3) (pos 4) 0))) (Some (interval (pos 3) (pos 3))) false
divided = record { stored = refl; failing = refl }

-- a whole that is a quotient stays exact
whole : Gives Trunc (receiver 2 2 false) (computed_range how.Whole (cell (pos 0) (pos 0) 0) (taken (cell (pos 1) (pos 1) 0) (Some (cell (pos 8) (pos 8) 0)))) (Some (interval (pos 12) (pos 12))) false
whole = record { stored = refl; failing = refl }

-- ---- counters

-- 0 to 10^18
counted : count_range (interval (pos 0) (pos 1000000000000000000)) ≡ Some (interval (pos 0) (pos 999999999999999999))
counted = refl

counted_too_far : count_may_fail (interval (pos 0) (pos 1000000000000000000)) ≡ true
counted_too_far = refl

counted_down : lowered (interval (pos 0) (pos 3)) ≡ interval (neg_ℤ (pos 1)) (pos 2)
counted_down = refl
