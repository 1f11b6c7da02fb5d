use Rattle.std.proofs.Common.{◌≡◌, max, drop}
use Rattle.std.specs.List.{fold}
use Rattle.cob_data.specs.declared.description.Spot.{Spot}
use Rattle.cob_data.specs.Spots.{storage_of}
use Rattle.cob_data.proofs.limits.storage_of.Given as goal

abbrev pub invariant-loop-spot : goal.invariant-loop-spot
invariant-loop-spot l = fold (λ most (s : Spot). max most s.end) l.most (drop l.spot-index l.spots) ≡ storage_of l.spots
