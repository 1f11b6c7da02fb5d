use Rattle.transfer_ranges.proofs.GuardLaws.{guard_fits}
use Rattle.transfer_ranges.proofs.guard_laws.cuts_fit.Goals as goal

pub returns : goal.returns
returns c = guard_fits
