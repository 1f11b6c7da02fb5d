use Rattle.std.proofs.Common.{◌+◌, ap, ◌∙◌, arith, rules}
use Rattle.std.specs.Int.{w128}
use Rattle.std.proofs.lemmas.Int.{ints, to_z-of_z}
use Rattle.diff_bounds.specs.declared.form.lin.Lin.{Lin}
use Rattle.diff_bounds.specs.Matrix.{word}
use Rattle.diff_bounds.specs.Numbers.{word_of}
use Rattle.diff_bounds.specs.Upper.{without, coef_at, upper_of}
use Rattle.diff_bounds.proofs.Same.{upper_of_negated}
use Rattle.diff_bounds.proofs.Lowered.{demanded_some}
use Rattle.diff_bounds.proofs.form.demands.demanded_word.Goals as goal

pub returns : goal.returns
returns c =
    let w = word (c.args.size + 1) c.args.m.now in
    let form = c.args.form.now in
    let coefs = coef_at form.coefs in
    to_z-of_z w128 c.quotient.result (search rules) ∙ c.quotient.ensures
    ∙ demanded_some w coefs form.constant.low c.args.size c.args.row c.args.column c.factor_of-factor.result _ _ (to_z-of_z w128 c.factor_of-factor.result (search rules)) c.factor_of-factor.ensures (omega (arith, ints))
    (to_z-of_z w128 c.upper.result (search rules) ∙ c.upper.ensures.bound
    ∙ ap (λ (f : Lin). word_of (upper_of c.args.size c.args.m.now f)) c.negated-rest.ensures.value
    ∙ ap word_of (upper_of_negated c.args.size c.args.m.now (without c.args.row c.args.column coefs) form c.without.result c.requires.size c.requires.ordered c.without.ensures))
