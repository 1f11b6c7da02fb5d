use Rattle.std.proofs.Common.{◌≡◌, ◌+◌, ◌-◌, ◌*◌, ◌^◌, ◌<◌, ◌≤◌}
use Rattle.dec_num.proofs.quotient.widened.Given as goal

abbrev pub invariant-loop-place : goal.invariant-loop-place
invariant-loop-place l = record {
  divided : l.quotient * l.d + l.rest ≡ l.n * 10 ^ l.place;
  rest_below : l.rest < l.d;
  quotient_below : l.quotient < 10 ^ 37;
  place_within : l.place ≤ l.up;
}

abbrev pub decreases-loop-place : goal.decreases-loop-place
decreases-loop-place l = l.up - l.place
