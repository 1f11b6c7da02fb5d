use Rattle.std.proofs.Common.{◌≡◌, Some, None, refl, subst, rules, ◌∙◌, arith, to_z, of_z}
use Rattle.std.specs.Int.{w128}
use Rattle.std.proofs.lemmas.Int.{ints, to_z-of_z}
use Rattle.diff_bounds.specs.Forms.{coef, coefs_of, AreSmallCoefs}
use Rattle.diff_bounds.specs.Results.{scaled_coefs}
use Rattle.diff_bounds.proofs.Coefs.{put_none, put_more, put_all}
use Rattle.diff_bounds.proofs.Parts.{nothing, product_along}
use Rattle.diff_bounds.proofs.form.arithmetic.coef_multiples.Goals as goal

pub loop-k-init : goal.loop-k-init
loop-k-init c = put_none (scaled_coefs c.args.a.now (to_z w128 (of_z w128 c.args.by))) _ refl

pub returns-in_err-coefs : goal.returns-in_err-coefs
returns-in_err-coefs c =
    let k = c.loop-k.k in
    let by = c.args.by in
    let x = coef c.args.a.now k in
    let scaled = scaled_coefs c.args.a.now by in
    let refused = product_along x by (to_z w128 (of_z w128 x)) (to_z w128 (of_z w128 by)) None (to_z-of_z w128 x (search rules)) (to_z-of_z w128 by c.ranges.by) c.in_err-coefs.ensures in
    nothing c.from_residual.result (AreSmallCoefs scaled) (coefs_of scaled) c.from_residual.ensures (λ is. refused (is.small k (omega arith)))

pub loop-k-preserved : goal.loop-k-preserved
loop-k-preserved c =
    let k = c.loop-k.k in
    let by = to_z w128 (of_z w128 c.args.by) in
    let x = coef c.args.a.now k in
    let product = c.in_ok-coefs.field-0 in
    let here = product_along x by (to_z w128 (of_z w128 x)) by (Some product) (to_z-of_z w128 x (search rules)) refl c.in_ok-coefs.ensures in
    let put : to_z w128 (of_z w128 product) ≡ product = omega (arith, ints) in
    put_more (scaled_coefs c.args.a.now by) k c.loop-k.coefs (to_z w128 (of_z w128 product)) (omega arith) c.loop-k.invariant here.0 (put ∙ here.1)

pub returns : goal.returns
returns c =
    let a = c.args.a.now in
    let by = to_z w128 (of_z w128 c.args.by) in
    let coefs = c.loop-k.coefs in
    subst (λ t. AreSmallCoefs (scaled_coefs a t) × (coefs ≡ coefs_of (scaled_coefs a t))) (to_z-of_z w128 c.args.by c.ranges.by) (put_all (scaled_coefs a by) c.loop-k.k coefs (omega arith) c.loop-k.invariant)
