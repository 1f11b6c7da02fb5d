use Rattle.std.proofs.Common.{◌∙◌, sym, ap, subst}
use Rattle.cob_tree.specs.Kinds.{kinds_of}
use Rattle.interval_domain.specs.Rows.{cells_of}
use Rattle.interval_domain.specs.Elements.{CellsFit}
use Rattle.cell_steps.specs.OwnRanges.{owns}
use Rattle.cell_layer.specs.ProgramRows.{IsRowOf}
use Rattle.cell_layer.specs.Works as works
use Rattle.cell_layer.proofs.Leaving as cells
use Rattle.cell_layer.proofs.Leaving.{can_walk, marks_of_work}
use Rattle.diff_layer.specs.GraphWorks.{program_of, graph_of, packs_of, edge_of, matrices_of, cells_at}
use Rattle.diff_layer.specs.Walks.{statement_clears2}
use Rattle.diff_layer.proofs.ClearedByCells.{all_cleared_by_cells}
use Rattle.diff_layer.proofs.EdgeOperands.{of_edge, plans_of_work}
use Rattle.diff_layer.proofs.EdgesWalked.{cleared_by, cleared_by_none}
use Rattle.diff_layer.proofs.layer.edges.edge_cleared.Goals as goal

pub invariant_of-edge : goal.invariant_of-edge
invariant_of-edge c =
    let a = c.args in
    let e = a.edges.now in
    let w = c.in-Some.work.now in
    let work = rw c.in-Some.is at c.at.ensures in
    let can = can_walk (program_of e) (graph_of e) (edge_of e a.at) w work e.works.now.source c.get.result.now a.rows.now.cells.now c.get.ensures c.requires.reached c.requires.fits in
    record {
      packs = plans_of_work (program_of e) (graph_of e) (edge_of e a.at) w work e.plans.now e.packs;
      marked = marks_of_work (program_of e) (graph_of e) (edge_of e a.at) w work e.works.now.graph.now.cells c.get.result.now e.works.now.marks.items c.as_slice.result.now
          c.get.ensures c.as_slice.ensures.value e.works.now.marked;
      small_cells = can.small_cells;
      small = can.small;
      of_edge = of_edge (program_of e) (graph_of e) (edge_of e a.at) w work e.works.now.source;
    }

pub cleared_by_edge-requires-clause-marks : goal.cleared_by_edge-requires-clause-marks
cleared_by_edge-requires-clause-marks c =
    let a = c.args in
    let e = a.edges.now in
    marks_of_work (program_of e) (graph_of e) (edge_of e a.at) c.in-Some.work.now (rw c.in-Some.is at c.at.ensures) e.works.now.graph.now.cells c.get.result.now e.works.now.marks.items
    c.as_slice.result.now c.get.ensures c.as_slice.ensures.value e.works.now.marked

pub cleared_by_edge-requires-clause-can : goal.cleared_by_edge-requires-clause-can
cleared_by_edge-requires-clause-can c =
    let a = c.args in
    let e = a.edges.now in
    can_walk (program_of e) (graph_of e) (edge_of e a.at) c.in-Some.work.now (rw c.in-Some.is at c.at.ensures) e.works.now.source c.get.result.now a.rows.now.cells.now c.get.ensures
    c.requires.reached c.requires.fits

pub packs_cleared-requires-clause-row : goal.packs_cleared-requires-clause-row
packs_cleared-requires-clause-row c =
    let a = c.args in
    let e = a.edges.now in
    let w = c.in-Some.work.now in
    subst (IsRowOf (works.program_of w) c.get.result.now) (sym c.copy_from_slice.ensures.after)
    (can_walk (program_of e) (graph_of e) (edge_of e a.at) w (rw c.in-Some.is at c.at.ensures) e.works.now.source c.get.result.now a.rows.now.cells.now c.get.ensures
    c.requires.reached c.requires.fits).row_of

pub packs_cleared-requires-clause-fits : goal.packs_cleared-requires-clause-fits
packs_cleared-requires-clause-fits c =
    let a = c.args in
    let e = a.edges.now in
    let w = c.in-Some.work.now in
    subst (λ row. CellsFit (owns (works.program_of w)) (cells_of row)) (sym c.copy_from_slice.ensures.after)
    (can_walk (program_of e) (graph_of e) (edge_of e a.at) w (rw c.in-Some.is at c.at.ensures) e.works.now.source c.get.result.now a.rows.now.cells.now c.get.ensures
    c.requires.reached c.requires.fits).fits

pub returns-then-is_all : goal.returns-then-is_all
returns-then-is_all c =
    let a = c.args in
    let e = a.edges.now in
    c.all-then-is_all.ensures
    ∙ all_cleared_by_cells (program_of e) (packs_of e) (graph_of e) (cells_at a.rows.now) (matrices_of e a.rows.now.matrices.now) (edge_of e a.at)
    (sym (c.cleared_by_edge.ensures ∙ cells.cleared_by (program_of e) (graph_of e) (edge_of e a.at) c.in-Some.work.now (rw c.in-Some.is at c.at.ensures) (cells_at a.rows.now))
    ∙ c.is_all.ensures c.if-is_all.true)

pub returns-else-is_all : goal.returns-else-is_all
returns-else-is_all c =
    let a = c.args in
    let e = a.edges.now in
    let w = c.in-Some.work.now in
    c.packs_cleared.ensures
    ∙ ap (λ row. kinds_of (statement_clears2 (works.program_of w) (packs_of e) (works.statement_of w) w.action (cells_of row) (matrices_of e c.copy_from_slice-in-Some.new.self))) c.copy_from_slice.ensures.after
    ∙ ap (λ out. kinds_of (statement_clears2 (works.program_of w) (packs_of e) (works.statement_of w) w.action (cells_at a.rows.now) (matrices_of e out))) c.copy_from_slice-in-Some.ensures.after
    ∙ cleared_by (program_of e) (graph_of e) (packs_of e) (edge_of e a.at) (cells_at a.rows.now) (matrices_of e a.rows.now.matrices.now) c.in-Some.work.now (rw c.in-Some.is at c.at.ensures)

pub returns-in-None : goal.returns-in-None
returns-in-None c =
    let a = c.args in
    let e = a.edges.now in
    c.all.ensures
    ∙ cleared_by_none (program_of e) (graph_of e) (packs_of e) (edge_of e a.at) (cells_at a.rows.now) (matrices_of e a.rows.now.matrices.now) (rw c.in-None.is at c.at.ensures)
