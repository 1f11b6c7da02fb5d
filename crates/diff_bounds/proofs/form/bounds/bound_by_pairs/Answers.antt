use Rattle.std.proofs.Common.{◌≡◌, ◌+◌, ◌∙◌, ap, subst, sym, to_z, of_z, refl, arith, rules, ℤ}
use Rattle.std.specs.Int.{w128}
use Rattle.std.proofs.lemmas.Int.{ints, to_z-of_z}
use Rattle.diff_bounds.specs.Matrix.{word}
use Rattle.diff_bounds.specs.Numbers.{word_of}
use Rattle.diff_bounds.specs.Upper.{by_pair, least_to, coef_at}
use Rattle.diff_bounds.proofs.Signs.{least_more}
use Rattle.diff_bounds.proofs.Bounded.{least_is, pair_is}
use Rattle.diff_bounds.proofs.form.bounds.bound_by_pairs.Goals as goal

pub loop-k-preserved : goal.loop-k-preserved
loop-k-preserved c =
    let w = word (c.args.size + 1) c.args.m.now in
    let cs = coef_at c.args.coefs.now in
    let back = to_z-of_z w128 c.min-best.result (search rules) in
    let one = to_z-of_z w128 c.bound_by_pair.result (search rules) in
    let high = to_z-of_z w128 c.args.high (search rules) in
    back ∙ c.min-best.ensures.value ∙ least_more (λ y. by_pair w cs (to_z w128 (of_z w128 c.args.high)) c.args.size c.args.x y (cs c.args.x) (cs y)) c.loop-k.k (to_z w128 c.loop-k.best-bits) (to_z w128 (of_z w128 c.bound_by_pair.result))
    (least_is c.loop-k.k (λ y. by_pair w cs (to_z w128 (of_z w128 c.args.high)) c.args.size c.args.x y (cs c.args.x) (cs y)) (λ y. pair_is w cs (to_z w128 (of_z w128 c.args.high)) c.args.size c.args.x y (cs c.args.x) (cs y)))
    (pair_is w cs (to_z w128 (of_z w128 c.args.high)) c.args.size c.args.x (c.loop-k.k + 1) (cs c.args.x) (cs (c.loop-k.k + 1)))
    c.loop-k.invariant (one ∙ c.bound_by_pair.ensures)
