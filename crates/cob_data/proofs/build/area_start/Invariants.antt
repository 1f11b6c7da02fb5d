use Rattle.std.proofs.Common.{◌≡◌, drop}
use Rattle.cob_data.specs.Layouts.{area_start}
use Rattle.cob_data.proofs.build.area_start.Given as goal

abbrev pub invariant-loop-place : goal.invariant-loop-place
invariant-loop-place l = area_start l.file (drop l.place l.items) (drop l.place l.spots) ≡ area_start l.file l.items l.spots
