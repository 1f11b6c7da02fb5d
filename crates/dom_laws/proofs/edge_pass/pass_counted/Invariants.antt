use Rattle.std.proofs.Common.{◌≡◌, length}
use Rattle.dom_laws.proofs.Passing.{KeptTo}
use Rattle.dom_laws.proofs.edge_pass.pass_counted.Given as goal

abbrev pub invariant-loop-index : goal.invariant-loop-index
invariant-loop-index g l =
    KeptTo (g.S.Domain.lattice l.system) (g.S.System.flow l.system) (g.R.Rows.row_at l.rows) l.index × (length l.out ≡ (g.S.Domain.lattice l.system).width)
