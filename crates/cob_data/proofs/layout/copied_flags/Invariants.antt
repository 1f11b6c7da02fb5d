use Rattle.std.proofs.Common.{◌≡◌, take}
use Rattle.cob_data.proofs.layout.copied_flags.Given as goal

abbrev pub invariant-loop-flag : goal.invariant-loop-flag
invariant-loop-flag l = l.copies.items ≡ take l.flag-index l.flags
