use Rattle.transfer_ranges.proofs.InRanges.{members_least}
use Rattle.transfer_ranges.proofs.Relations.{left_least, right_least}
use Rattle.transfer_ranges.proofs.guard_laws.cuts_are_least.Goals as goal

pub returns : goal.returns
returns c = record { left = left_least; right = right_least; members = members_least }
