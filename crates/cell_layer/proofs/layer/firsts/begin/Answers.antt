use Rattle.std.proofs.Common.{◌≡◌, length, sym, subst}
use Rattle.interval_domain.specs.Rows.{IsReached, cells_of}
use Rattle.cell_layer.proofs.FirstCells.{begun, begun_reached, begun_many}
use Rattle.cell_layer.proofs.layer.firsts.begin.Goals as goal

pub returns-clause-reached : goal.returns-clause-reached
returns-clause-reached c =
    let x = c.args in
    subst IsReached (sym (begun x.cells x.row.now c.set_unreached.new.row c.requires c.set_unreached.ensures)) (begun_reached x.cells)

pub returns-clause-many : goal.returns-clause-many
returns-clause-many c =
    let x = c.args in
    subst (λ row. length (cells_of row) ≡ x.cells) (sym (begun x.cells x.row.now c.set_unreached.new.row c.requires c.set_unreached.ensures))
    (begun_many x.cells)
