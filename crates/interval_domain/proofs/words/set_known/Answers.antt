use Rattle.std.proofs.Common.{rules, ◌∙◌, ap, sym, subst}
use Rattle.interval_domain.specs.Rows.{IsReached, cells_of}
use Rattle.interval_domain.proofs.Places.{words_are_cell, set_reached, cells_set}
use Rattle.interval_domain.proofs.words.set_known.Goals as goal

pub returns-clause-value : goal.returns-clause-value
returns-clause-value c = words_are_cell c.args.row.now c.args.k _ _ _ c.args.known c.place_of-place.ensures.value (search rules) (search rules) c.requires.reached c.requires.k

pub returns-clause-cells : goal.returns-clause-cells
returns-clause-cells c =
    ap cells_of (words_are_cell c.args.row.now c.args.k _ _ _ c.args.known c.place_of-place.ensures.value (search rules) (search rules) c.requires.reached c.requires.k)
    ∙ cells_set c.args.row.now c.args.k c.args.known c.requires.reached c.requires.k c.requires.ordered

pub returns-clause-reached : goal.returns-clause-reached
returns-clause-reached c =
    subst IsReached (sym (words_are_cell c.args.row.now c.args.k _ _ _ c.args.known c.place_of-place.ensures.value (search rules) (search rules) c.requires.reached c.requires.k))
    (set_reached c.args.row.now c.args.k c.args.known c.requires.ordered)
