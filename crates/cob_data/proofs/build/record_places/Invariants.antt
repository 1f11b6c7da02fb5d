use Rattle.std.proofs.Common.{◌≡◌, ◌++◌, drop}
use Rattle.cob_data.specs.Layouts.{record_places}
use Rattle.cob_data.proofs.build.record_places.Given as goal

abbrev pub invariant-loop-place : goal.invariant-loop-place
invariant-loop-place l = l.places.items ++ record_places l.file l.place (drop l.place l.items) ≡ record_places l.file 0 l.items
