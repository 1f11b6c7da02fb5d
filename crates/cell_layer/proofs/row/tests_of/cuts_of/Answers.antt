use Rattle.std.proofs.Common.{◌∙◌}
use Rattle.cob_program.specs.ActView.{plain_program}
use Rattle.cob_program.specs.LogicView.{plain_test}
use Rattle.interval_domain.specs.Rows.{cells_of}
use Rattle.cell_layer.proofs.ShortBounds.{bounded}
use Rattle.cell_layer.proofs.Cuts.{cuts_are, cuts_are_ordered}
use Rattle.cell_layer.proofs.row.tests_of.cuts_of.Goals as goal

pub guarded-requires-clause-bounded : goal.guarded-requires-clause-bounded
guarded-requires-clause-bounded c = bounded (plain_program c.args.program.now) (cells_of c.args.row.now) c.requires.fits

pub returns-clause-value : goal.returns-clause-value
returns-clause-value c =
    c.guarded.ensures
    ∙ cuts_are (plain_program c.args.program.now) (cells_of c.args.row.now) (plain_test c.args.test.now) c.args.wanted c.requires.small
    c.requires.other

pub returns-clause-ordered : goal.returns-clause-ordered
returns-clause-ordered c =
    let p = plain_program c.args.program.now in
    let cells = cells_of c.args.row.now in
    let t = plain_test c.args.test.now in
    cuts_are_ordered p cells t c.args.wanted c.guarded.result c.requires.fits
    (c.guarded.ensures ∙ cuts_are p cells t c.args.wanted c.requires.small c.requires.other)
