use Rattle.std.proofs.Common.{arith}
use Rattle.std.proofs.lemmas.Int.{ints, clamps}
use Rattle.diff_bounds.proofs.RowSums.{better_if}
use Rattle.diff_bounds.proofs.matrix.one_row.better.Goals as goal

pub returns : goal.returns
returns c =
    let low = c.requires.number.low in
    let high = c.requires.number.high c.requires.bound in
    let floor = c.requires.word.low in
    let top = c.requires.word.top in
    better_if c.args.best c.args.number c.args.word _ c.requires.best c.requires.number c.requires.bound c.requires.word (omega (arith, ints, clamps, low, high, floor, top))
