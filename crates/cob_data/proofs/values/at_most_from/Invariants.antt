use Rattle.std.proofs.Common.{◌≡◌, ◌-◌}
use Rattle.cob_data.specs.Values.{at_most_from}
use Rattle.cob_data.proofs.values.at_most_from.Given as goal

abbrev pub invariant-loop-place : goal.invariant-loop-place
invariant-loop-place l = at_most_from (l.places - l.place) l.place l.low l.high ≡ at_most_from l.places 0 l.low l.high
