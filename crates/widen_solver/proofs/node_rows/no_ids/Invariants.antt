use Rattle.std.proofs.Common.{◌≡◌, replicate, None}
use Rattle.widen_solver.proofs.node_rows.no_ids.Given as goal

abbrev pub invariant-loop : goal.invariant-loop
invariant-loop l = l.ids.items ≡ replicate l.counter None
