use Rattle.cob_program.specs.ActView.{plain_program}
use Rattle.interval_domain.specs.Rows.{cells_of}
use Rattle.diff_layer.proofs.Filling.{IsFilledTo}
use Rattle.diff_layer.proofs.KnownEnds.{known_by}
use Rattle.diff_layer.proofs.pack.closing.know_cells.Given as goal

abbrev pub invariant-loop-k : goal.invariant-loop-k
invariant-loop-k l = IsFilledTo (known_by (plain_program l.program) (cells_of l.row) l.plan.decimals) l.plan.cells.items l.known l.k
