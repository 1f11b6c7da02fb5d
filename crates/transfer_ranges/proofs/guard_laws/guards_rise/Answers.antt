use Rattle.transfer_ranges.proofs.GuardLaws.{guard_below}
use Rattle.transfer_ranges.proofs.guard_laws.guards_rise.Goals as goal

pub returns : goal.returns
returns c = guard_below
