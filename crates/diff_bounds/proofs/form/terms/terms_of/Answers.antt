use Rattle.std.proofs.Common.{◌+◌, ◌∙◌, to_z, refl, arith, rules}
use Rattle.std.specs.Int.{w128}
use Rattle.std.proofs.lemmas.Int.{ints, to_z-of_z}
use Rattle.diff_bounds.specs.Matrix.{word}
use Rattle.diff_bounds.specs.Upper.{without, coef_at}
use Rattle.diff_bounds.proofs.Signs.{terms_more, within_along}
use Rattle.diff_bounds.proofs.form.terms.terms_of.Goals as goal

pub loop-k-preserved : goal.loop-k-preserved
loop-k-preserved c =
    let k = c.loop-k.k in
    let back = to_z-of_z w128 c.plus-total.result (search rules) in
    let part = to_z-of_z w128 c.term_of.result (search rules) in
    let one = to_z-of_z w128 c.coefficient_of.result (search rules) in
    record {
      value = terms_more (word (c.args.size + 1) c.args.m.now) (without c.args.x c.args.y (coef_at c.args.coefs.now)) k (to_z w128 c.loop-k.total-bits) c.term_of.result _ c.plus-total.result _ (to_z w128 c.loop-k.total-bits) _
          c.loop-k.invariant.value back refl part (one ∙ c.coefficient_of.ensures) c.term_of.ensures.value c.plus-total.ensures.value;
      small = within_along (k + 1) c.plus-total.result _ back (c.plus-total.ensures.small k (omega (arith, c.requires.size)) c.loop-k.invariant.small);
    }
