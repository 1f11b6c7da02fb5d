use Rattle.std.proofs.Common.{◌∙◌}
use Rattle.cob_program.specs.ActView.{plain_act, plain_program}
use Rattle.interval_domain.specs.Rows.{cells_of}
use Rattle.cell_layer.proofs.ShortBounds.{bounded}
use Rattle.cell_layer.proofs.ShortAnswers.{vanishing_is}
use Rattle.cell_layer.proofs.row.sums.operands_vanish.Goals as goal

pub operands_vanish-requires-clause-bounded : goal.operands_vanish-requires-clause-bounded
operands_vanish-requires-clause-bounded c = bounded (plain_program c.args.program.now) (cells_of c.args.row.now) c.requires.fits

pub returns : goal.returns
returns c =
    c.operands_vanish.ensures
    ∙ vanishing_is (plain_program c.args.program.now) (cells_of c.args.row.now) (plain_act c.args.act.now) c.requires.sum
