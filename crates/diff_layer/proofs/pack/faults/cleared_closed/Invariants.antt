use Rattle.interval_domain.specs.Rows.{cells_of}
use Rattle.diff_layer.specs.Plans.{matrices_for}
use Rattle.diff_layer.proofs.WalkSteps.{IsClearedTo}
use Rattle.diff_layer.proofs.pack.faults.cleared_closed.Given as goal

abbrev pub invariant-loop-part : goal.invariant-loop-part
invariant-loop-part l =
    IsClearedTo l.edge (cells_of l.initial.row) (matrices_for l.edge.plans.now l.initial.out) l.all l.part-index l.row l.before l.state l.out
