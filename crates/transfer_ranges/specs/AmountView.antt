-- What contracts see of an amount that is borrowed from a program.
use Rattle.cob_program.specs.SumView.{plain_sum}
use Rattle.cob_edge_parts.specs.Parts.{Amount, moved, computed, remaining, augmented}
use Rattle.transfer_ranges.specs.declared.amounts.Amount as declared_amount
use Rattle.transfer_ranges.specs.declared.amounts.Amount.TheVariants as amount

abbrev pub plain_amount : declared_amount.Amount → Amount
plain_amount (amount.Moved x) = moved x.now
plain_amount (amount.Computed s how) = computed (plain_sum s.now) how
plain_amount (amount.Remaining s scale) = remaining (plain_sum s.now) scale
plain_amount (amount.Augmented x) = augmented x.now
