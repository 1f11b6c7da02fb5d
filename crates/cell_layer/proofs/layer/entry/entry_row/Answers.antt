use Rattle.std.proofs.Common.{◌∙◌, arith}
use Rattle.cell_layer.proofs.Filled.{written_back}
use Rattle.cell_layer.proofs.layer.entry.entry_row.Goals as goal

pub returns : goal.returns
returns c =
    let kept = c.first.auto.row in
    let len = c.as_mut_slice.ensures.len in
    written_back c.first.new.row c.in_ok-row.row.items c.in_ok-row.row.len (omega (arith, kept, len)) ∙ c.first.ensures
