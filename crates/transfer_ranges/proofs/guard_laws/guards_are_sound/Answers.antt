use Rattle.transfer_ranges.proofs.GuardLaws.{guard_holds}
use Rattle.transfer_ranges.proofs.guard_laws.guards_are_sound.Goals as goal

pub returns : goal.returns
returns c = guard_holds
