use Rattle.transfer_ranges.proofs.Rounding.{decimals_least, quotient_units_least}
use Rattle.transfer_ranges.proofs.laws.units_are_least.Goals as goal

pub returns-clause-decimals : goal.returns-clause-decimals
returns-clause-decimals c = decimals_least

pub returns-clause-quotients : goal.returns-clause-quotients
returns-clause-quotients c = quotient_units_least
