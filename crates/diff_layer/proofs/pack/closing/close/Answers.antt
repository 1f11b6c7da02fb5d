use Rattle.std.proofs.Common.{List, length, if◌then◌else◌, Some, None, sym, ap, subst, ◌∙◌}
use Rattle.diff_bounds.specs.Matrix.{IsMatrix}
use Rattle.cob_program.specs.ActView.{plain_program}
use Rattle.interval_domain.specs.Rows.{cells_of}
use Rattle.cob_graph.specs.Homes.{homes_of}
use Rattle.diff_layer.specs.KnownCells.{HaveEnds}
use Rattle.cob_graph.specs.declared.homes.Home.{Home}
use Rattle.diff_layer.specs.Plans.{plain_plan}
use Rattle.diff_layer.proofs.KnownEnds.{known_cells_end}
use Rattle.diff_layer.proofs.Staying.{stays_closed}
use Rattle.diff_layer.proofs.pack.closing.close.Goals as goal

pub close_pack-requires-clause-ends : goal.close_pack-requires-clause-ends
close_pack-requires-clause-ends c =
    let x = c.args in
    subst HaveEnds (sym c.know_cells.ensures)
    (known_cells_end (plain_program x.program.now) (cells_of x.row.now) (plain_plan x.plan.now) c.requires.fits c.requires.plan.short)

pub returns-clause-stays : goal.returns-clause-stays
returns-clause-stays c closes =
    let x = c.args in
    let p = plain_program x.program.now in
    stays_closed p (cells_of x.row.now) (plain_plan x.plan.now) c.requires.plan.few c.requires.fits c.requires.plan.short x.m.now c.requires.matrix c.close_pack.new.m
    (c.close_pack.ensures.closing p.layout (homes_of p) (cells_of x.row.now) (plain_plan x.plan.now) c.know_cells.ensures
    ∙ ap (λ b. if b then Some c.close_pack.new.m else None) closes)

pub close_pack-requires-clause-m : goal.close_pack-requires-clause-m
close_pack-requires-clause-m c =
    let x = c.args in
    subst (λ n. IsMatrix n x.m.now) (ap (λ (cs : List Home). length cs) (sym c.as_slice-size.ensures.value)) c.requires.matrix

pub returns-clause-matrix : goal.returns-clause-matrix
returns-clause-matrix c closes =
    let x = c.args in
    subst (λ n. IsMatrix n c.close_pack.new.m) (sym (ap (λ (cs : List Home). length cs) (sym c.as_slice-size.ensures.value))) (c.close_pack.ensures.matrix closes)
