use Rattle.interval_domain.specs.Rows.{RowBelow}
use Rattle.interval_domain.proofs.Flags.{turned}
use Rattle.interval_domain.proofs.widening.widen.Goals as goal

pub returns-clause-kept : goal.returns-clause-kept
returns-clause-kept c = turned (RowBelow c.args.b.now c.args.a.now) c.leq-below.result c.leq-below.ensures
