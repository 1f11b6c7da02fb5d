use Rattle.std.proofs.Common.{◌≡◌, ◌≤◌, drop, length}
use Rattle.interval_domain.specs.Rows.{IsReached, cells_of}
use Rattle.cert_text.proofs.Filling.{IsDoneTo}
use Rattle.cert_text.proofs.claims.set_claims.Given as goal

abbrev pub invariant-loop-k : goal.invariant-loop-k
invariant-loop-k l = record {
  next : l.next ≤ length l.claims;
  words : length l.row ≡ length l.fn.row;
  reached : IsReached l.row;
  done : IsDoneTo l.owns l.claims l.k (cells_of l.row) (drop l.next l.claims);
}
