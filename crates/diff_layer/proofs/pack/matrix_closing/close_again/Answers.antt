use Rattle.std.proofs.Common.{◌∙◌, sym, ap}
use Rattle.diff_bounds.specs.Closed.{closed}
use Rattle.diff_layer.proofs.KnownWords.{closing_is}
use Rattle.diff_layer.proofs.pack.matrix_closing.close_again.Goals as goal

pub returns-clause-closed : goal.returns-clause-closed
returns-clause-closed c = ap (closed c.args.size) (sym c.put_all.ensures.value) ∙ c.close_changed.ensures.closed

pub returns-clause-closing : goal.returns-clause-closing
returns-clause-closing c l homes known pack are =
    closing_is l homes known pack c.args.size c.args.cells.now c.args.m.now _ c.requires.cells are
    (ap (closed c.args.size) (sym c.put_all.ensures.value) ∙ c.close_changed.ensures.closed)
