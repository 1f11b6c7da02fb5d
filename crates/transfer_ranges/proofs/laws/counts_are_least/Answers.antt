use Rattle.transfer_ranges.proofs.Keeping.{exceeded, lowered_least, counted_least}
use Rattle.transfer_ranges.proofs.laws.counts_are_least.Goals as goal

pub returns-clause-lowered : goal.returns-clause-lowered
returns-clause-lowered c = lowered_least

pub returns-clause-counted : goal.returns-clause-counted
returns-clause-counted c = counted_least

pub returns-clause-exceeded : goal.returns-clause-exceeded
returns-clause-exceeded c = λ i ordered. exceeded 18 i ordered
