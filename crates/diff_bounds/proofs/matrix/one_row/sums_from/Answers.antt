use Rattle.std.proofs.Common.{pos, get_or, refl, arith}
use Rattle.diff_bounds.specs.Matrix.{word}
use Rattle.diff_bounds.proofs.RowSums.{least_over_none, least_over_more}
use Rattle.diff_bounds.proofs.matrix.one_row.sums_from.Goals as goal

pub loop-over-init : goal.loop-over-init
loop-over-init c j h = least_over_none (word c.args.places c.args.m.now) c.args.at j _ (c.requires.none j h)

pub lower_from-requires-clause-sums : goal.lower_from-requires-clause-sums
lower_from-requires-clause-sums c j h = (c.loop-over.invariant j h).pair.top

pub loop-over-preserved : goal.loop-over-preserved
loop-over-preserved c j h =
    let w = word c.args.places c.args.m.now in
    let over = c.loop-over.over in
    let best = get_or c.loop-over.sums j (pos 0) in
    least_over_more w c.args.at j over best (w c.args.at over) (w over j) _ best (c.requires.words c.args.at over c.requires.at (omega arith)) (c.requires.words over j (omega arith) h) refl refl refl (c.loop-over.invariant j h) (c.lower_from.ensures j h)
