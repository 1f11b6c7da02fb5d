use Rattle.std.proofs.Common.{◌≡◌, Some, refl, rules, ◌∙◌, arith, to_z, of_z}
use Rattle.std.specs.Int.{w128}
use Rattle.std.proofs.lemmas.Int.{ints, to_z-of_z}
use Rattle.diff_bounds.specs.Forms.{coef}
use Rattle.diff_bounds.specs.Results.{added_coefs}
use Rattle.diff_bounds.proofs.Coefs.{put_none, put_more, put_all}
use Rattle.diff_bounds.proofs.Parts.{sum_along}
use Rattle.diff_bounds.proofs.form.arithmetic.coef_sums.Goals as goal

pub loop-k-init : goal.loop-k-init
loop-k-init c = put_none (added_coefs c.args.a.now c.args.b.now) _ refl

pub loop-k-preserved : goal.loop-k-preserved
loop-k-preserved c =
    let k = c.loop-k.k in
    let x = coef c.args.a.now k in
    let y = coef c.args.b.now k in
    let sum = c.in_ok-coefs.field-0 in
    let here = sum_along x y (to_z w128 (of_z w128 x)) (to_z w128 (of_z w128 y)) (Some sum) (to_z-of_z w128 x (search rules)) (to_z-of_z w128 y (search rules)) c.in_ok-coefs.ensures in
    let put : to_z w128 (of_z w128 sum) ≡ sum = omega (arith, ints) in
    put_more (added_coefs c.args.a.now c.args.b.now) k c.loop-k.coefs (to_z w128 (of_z w128 sum)) (omega arith) c.loop-k.invariant here.0 (put ∙ here.1)

pub returns : goal.returns
returns c = put_all (added_coefs c.args.a.now c.args.b.now) c.loop-k.k c.loop-k.coefs (omega arith) c.loop-k.invariant
