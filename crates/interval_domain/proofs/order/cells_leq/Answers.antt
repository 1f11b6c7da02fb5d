use Rattle.std.proofs.Common.{ℕ, below_more, arith}
use Rattle.interval_domain.specs.Known.{KnownBelow}
use Rattle.interval_domain.specs.Rows.{cells_of, known_at}
use Rattle.interval_domain.proofs.CellByCell.{none_below, all_below}
use Rattle.interval_domain.proofs.order.cells_leq.Goals as goal

pub returns-then-not-cell_leq : goal.returns-then-not-cell_leq
returns-then-not-cell_leq c =
    none_below (cells_of c.args.a.now) (cells_of c.args.b.now) c.loop-k.k c.cell_leq.result (omega (arith, c.cell_count-cells.ensures)) c.cell_leq.ensures c.if-not-cell_leq.true

pub loop-k-preserved : goal.loop-k-preserved
loop-k-preserved c =
    below_more (λ (j : ℕ). KnownBelow (known_at (cells_of c.args.a.now) j) (known_at (cells_of c.args.b.now) j)) c.loop-k.k c.loop-k.invariant (c.cell_leq.ensures.0 c.if-not-cell_leq.false)

pub returns : goal.returns
returns c = all_below (cells_of c.args.a.now) (cells_of c.args.b.now) c.loop-k.k (omega (arith, c.cell_count-cells.ensures)) c.requires.cells c.loop-k.invariant
