use Rattle.std.proofs.Common.{◌≡◌, ◌++◌, suc, drop}
use Rattle.interval_domain.specs.Rows.{cells_of}
use Rattle.analyse_core.specs.Certificates.{claims_from}
use Rattle.analyse_core.proofs.certificate.claims_of.Given as goal

abbrev pub invariant-loop-k : goal.invariant-loop-k
invariant-loop-k l = l.claims.items ++ claims_from (suc l.k) (drop l.k (cells_of l.row)) ≡ claims_from 1 (cells_of l.row)
