use Rattle.std.proofs.Common.{pos, get_or, refl, arith}
use Rattle.diff_bounds.specs.Matrix.{word}
use Rattle.diff_bounds.proofs.RowSums.{least_over_none, least_over_more}
use Rattle.diff_bounds.proofs.matrix.one_row.sums_into.Goals as goal

pub loop-over-init : goal.loop-over-init
loop-over-init c i h = least_over_none (word c.args.places c.args.m.now) i c.args.at _ (c.requires.none i h)

pub lower_into-requires-clause-sums : goal.lower_into-requires-clause-sums
lower_into-requires-clause-sums c i h = (c.loop-over.invariant i h).pair.top

pub loop-over-preserved : goal.loop-over-preserved
loop-over-preserved c i h =
    let w = word c.args.places c.args.m.now in
    let over = c.loop-over.over in
    let best = get_or c.loop-over.sums i (pos 0) in
    least_over_more w i c.args.at over best (w i over) (w over c.args.at) _ best (c.requires.words i over h (omega arith)) (c.requires.words over c.args.at (omega arith) c.requires.at) refl refl refl (c.loop-over.invariant i h) (c.lower_into.ensures i h)

pub lower_into-requires-clause-words : goal.lower_into-requires-clause-words
lower_into-requires-clause-words c = c.requires.words
