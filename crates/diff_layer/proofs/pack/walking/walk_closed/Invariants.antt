use Rattle.interval_domain.specs.Rows.{cells_of}
use Rattle.diff_layer.specs.Plans.{matrices_for}
use Rattle.diff_layer.proofs.WalkSteps.{IsWalkedTo}
use Rattle.diff_layer.proofs.pack.walking.walk_closed.Given as goal

abbrev pub invariant-loop-part : goal.invariant-loop-part
invariant-loop-part l =
    IsWalkedTo l.edge (cells_of l.initial.row) (matrices_for l.edge.plans.now l.initial.out) l.part-index l.row l.before l.state l.out
