use Rattle.std.proofs.Common.{◌+◌, arith}
use Rattle.std.proofs.lemmas.Int.{ints}
use Rattle.diff_bounds.specs.Matrix.{word}
use Rattle.diff_bounds.specs.Upper.{coef_at, upper_of}
use Rattle.diff_bounds.proofs.Bounded.{upper_is}
use Rattle.diff_layer.proofs.Shown.{none_there}
use Rattle.diff_layer.proofs.pack.matrix_bounds.bound.Goals as goal

pub returns-else-word-lt-NONE-clause-value : goal.returns-else-word-lt-NONE-clause-value
returns-else-word-lt-NONE-clause-value c =
    let form = c.args.form.now in
    none_there (upper_of c.args.size c.args.m.now form) c.upper-word.result
    (upper_is (word (c.args.size + 1) c.args.m.now) (coef_at form.coefs) form.constant.high c.args.size) c.upper-word.ensures.bound (omega (arith, ints))
