use Rattle.std.proofs.Common.{◌≤◌, drop, length}
use Rattle.interval_domain.specs.Rows.{cells_of}
use Rattle.cert_text.proofs.Seeking.{IsSoughtTo}
use Rattle.cert_text.proofs.gaps.cells_gap.Given as goal

abbrev pub invariant-loop-k : goal.invariant-loop-k
invariant-loop-k l = record {
  next : l.next ≤ length l.claims;
  sought : IsSoughtTo (cells_of l.row) l.claims l.cells l.k (drop l.next l.claims);
}
