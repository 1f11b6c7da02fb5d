use Rattle.transfer_ranges.specs.Kept.{size_of}
use Rattle.transfer_ranges.proofs.members.+none_kept.Given as goal

abbrev pub decreases-none_kept : goal.decreases-none_kept
decreases-none_kept g l = size_of l.item.units
