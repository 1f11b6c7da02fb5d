use Rattle.transfer_ranges.proofs.Keeping.{both_least, exceeded, held_least, kept_least}
use Rattle.transfer_ranges.proofs.laws.receivers_keep_the_least.Goals as goal

pub returns-clause-both : goal.returns-clause-both
returns-clause-both c = both_least

pub returns-clause-held : goal.returns-clause-held
returns-clause-held c = held_least

pub returns-clause-kept : goal.returns-clause-kept
returns-clause-kept c = kept_least

pub returns-clause-exceeded : goal.returns-clause-exceeded
returns-clause-exceeded c = exceeded
