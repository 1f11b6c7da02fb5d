use Rattle.std.proofs.Common.{◌+◌, to_z, of_z, arith, rules}
use Rattle.std.specs.Int.{w128}
use Rattle.std.proofs.lemmas.Int.{ints, to_z-of_z}
use Rattle.diff_bounds.specs.Matrix.{word}
use Rattle.diff_bounds.specs.Upper.{coef_at}
use Rattle.diff_bounds.proofs.Signs.{zero_along}
use Rattle.diff_bounds.proofs.form.bounds.bound_by_zero.Goals as goal

pub returns : goal.returns
returns c =
    zero_along (word (c.args.size + 1) c.args.m.now) (coef_at c.args.coefs.now) c.args.high c.args.size c.terms_of.result c.plus.result c.cut_whole.result
    (to_z w128 (of_z w128 c.terms_of.result)) (to_z w128 (of_z w128 c.plus.result)) (to_z w128 (of_z w128 c.args.high)) (to_z w128 (of_z w128 c.cut_whole.result))
    c.cut_whole.ensures (to_z-of_z w128 c.cut_whole.result (search rules)) (to_z-of_z w128 c.plus.result (search rules)) c.plus.ensures.value (to_z-of_z w128 c.terms_of.result (search rules)) (to_z-of_z w128 c.args.high (search rules)) c.terms_of.ensures.value c.requires.high
