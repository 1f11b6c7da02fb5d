use Rattle.data_laws.proofs.Items.{numbers_are_own}
use Rattle.data_laws.proofs.laws.numbers_lie_in_own_ranges.Goals as goal

pub returns : goal.returns
returns c = numbers_are_own
