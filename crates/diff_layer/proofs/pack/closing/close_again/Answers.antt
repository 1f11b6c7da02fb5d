use Rattle.std.proofs.Common.{List, length, if◌then◌else◌, Some, None, sym, ap, subst, ◌∙◌}
use Rattle.diff_bounds.specs.Matrix.{IsMatrix}
use Rattle.cob_program.specs.ActView.{plain_program}
use Rattle.interval_domain.specs.Rows.{cells_of}
use Rattle.cob_graph.specs.Homes.{homes_of}
use Rattle.diff_layer.specs.KnownCells.{HaveEnds}
use Rattle.diff_layer.specs.Tight.{IsTightIfSettled}
use Rattle.cob_graph.specs.declared.homes.Home.{Home}
use Rattle.diff_layer.specs.Plans.{plain_plan}
use Rattle.diff_layer.proofs.KnownEnds.{known_cells_end}
use Rattle.diff_layer.proofs.Staying.{stays_closed, closed_is_tight}
use Rattle.diff_layer.proofs.pack.closing.close_again.Goals as goal

pub close_again-requires-clause-ends : goal.close_again-requires-clause-ends
close_again-requires-clause-ends c =
    let x = c.args in
    subst HaveEnds (sym c.know_cells.ensures)
    (known_cells_end (plain_program x.program.now) (cells_of x.row.now) (plain_plan x.plan.now) c.requires.fits c.requires.plan.short)

pub close_again-requires-clause-tight : goal.close_again-requires-clause-tight
close_again-requires-clause-tight c =
    let x = c.args in
    subst (λ n. IsTightIfSettled n x.last.now) (ap (λ (cs : List Home). length cs) (sym c.as_slice-size.ensures.value))
    (closed_is_tight (plain_program x.program.now) c.requires.closed.0 (plain_plan x.plan.now) c.requires.plan.few c.requires.closed.1 c.requires.plan.short x.last.now c.requires.last c.requires.closed.2)

pub returns-clause-stays : goal.returns-clause-stays
returns-clause-stays c closes =
    let x = c.args in
    let p = plain_program x.program.now in
    stays_closed p (cells_of x.row.now) (plain_plan x.plan.now) c.requires.plan.few c.requires.fits c.requires.plan.short x.m.now c.requires.matrix c.close_again.new.m
    (c.close_again.ensures.closing p.layout (homes_of p) (cells_of x.row.now) (plain_plan x.plan.now) c.know_cells.ensures
    ∙ ap (λ b. if b then Some c.close_again.new.m else None) closes)

pub close_again-requires-clause-m : goal.close_again-requires-clause-m
close_again-requires-clause-m c =
    let x = c.args in
    subst (λ n. IsMatrix n x.m.now) (ap (λ (cs : List Home). length cs) (sym c.as_slice-size.ensures.value)) c.requires.matrix

pub close_again-requires-clause-last : goal.close_again-requires-clause-last
close_again-requires-clause-last c =
    let x = c.args in
    subst (λ n. IsMatrix n x.last.now) (ap (λ (cs : List Home). length cs) (sym c.as_slice-size.ensures.value)) c.requires.last

pub returns-clause-matrix : goal.returns-clause-matrix
returns-clause-matrix c closes =
    let x = c.args in
    subst (λ n. IsMatrix n c.close_again.new.m) (sym (ap (λ (cs : List Home). length cs) (sym c.as_slice-size.ensures.value))) (c.close_again.ensures.matrix closes)
