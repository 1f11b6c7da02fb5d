use Rattle.cob_program.specs.ActView.{plain_program}
use Rattle.interval_domain.specs.Rows.{lists_of}
use Rattle.widen_solver.specs.Stored.{row_at}
use Rattle.analyse_core.proofs.SolvedRows.{cells_solved, cell_steps_fit}
use Rattle.analyse_core.proofs.solving.solve_cells.Goals as goal

pub returns-clause-solved : goal.returns-clause-solved
returns-clause-solved g c =
    let layer = c.args.layer.now in
    cells_solved (plain_program layer.program.now) layer.graph.now (lists_of layer.thresholds.now) c.requires.thresholds
    (row_at c.solve.new.store.rows) c.solve.ensures.inductive c.solve.ensures.dominated

pub returns-clause-at_most : goal.returns-clause-at_most
returns-clause-at_most g c =
    let layer = c.args.layer.now in
    cell_steps_fit (plain_program layer.program.now) layer.graph.now (lists_of layer.thresholds.now) c.requires.thresholds _ _
    c.solve.ensures.at_most
