use Rattle.std.proofs.Common.{ℕ, ◌<◌}
use Rattle.interval_domain.specs.Known.{KnownBelow}
use Rattle.interval_domain.specs.Rows.{cells_of, known_at}
use Rattle.interval_domain.proofs.order.cells_leq.Given as goal

abbrev pub invariant-loop-k : goal.invariant-loop-k
invariant-loop-k l = (j : ℕ) → j < l.k → KnownBelow (known_at (cells_of l.a) j) (known_at (cells_of l.b) j)
