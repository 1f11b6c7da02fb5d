use Rattle.std.proofs.Common.{◌≡◌, ◌+◌, drop}
use Rattle.analyse_core.specs.Thresholds.{rank_in}
use Rattle.analyse_core.proofs.listing.rank_in.Given as goal

abbrev pub invariant-loop-rank : goal.invariant-loop-rank
invariant-loop-rank l = rank_in l.z l.list ≡ l.rank + rank_in l.z (drop l.rank l.list)
