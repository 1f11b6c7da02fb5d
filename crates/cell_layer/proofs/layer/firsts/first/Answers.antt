use Rattle.std.proofs.Common.{◌∙◌, ap}
use Rattle.cob_program.specs.ActView.{plain_program}
use Rattle.interval_domain.specs.Rows.{row_of}
use Rattle.cell_layer.proofs.FirstCells.{cells_short, firsts_are}
use Rattle.cell_layer.proofs.layer.firsts.first.Goals as goal

pub set_firsts-requires-clause-short : goal.set_firsts-requires-clause-short
set_firsts-requires-clause-short c = cells_short (plain_program c.args.program.now) c.args.cells.now c.requires.cells

pub returns : goal.returns
returns c = c.set_firsts.ensures ∙ ap row_of (firsts_are (plain_program c.args.program.now) c.args.cells.now c.requires.cells)
