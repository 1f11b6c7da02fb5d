use Rattle.std.proofs.Common.{◌≡◌, ℕ, ℤ, ◌*ℤ◌, ◌≤ℤ◌, arith, to_z, of_z}
use Rattle.std.specs.Int.{w128}
use Rattle.std.proofs.lemmas.Int.{ints}
use Rattle.interval_domain.specs.Bounds.{IsLeast}
use Rattle.diff_bounds.specs.Forms.{values, IsSmallForm}
use Rattle.diff_bounds.specs.Results.{multiple_of, scaled_coefs, IsMultiple}
use Rattle.diff_bounds.proofs.Coefs.{length-coefs_of}
use Rattle.diff_bounds.proofs.Computed.{computed}
use Rattle.diff_bounds.proofs.Parts.{multiple_is, holds_of_some, ends_ordered}
use Rattle.diff_bounds.proofs.Values.{multiple_values}
use Rattle.diff_bounds.proofs.form.arithmetic.lin_scale.Goals as goal

pub returns-clause-small : goal.returns-clause-small
returns-clause-small c =
    let by = c.args.by in
    let same : to_z w128 (of_z w128 by) ≡ by = omega (arith, ints) in
    multiple_is c.args.a.now (to_z w128 (of_z w128 by)) by c.coef_multiples.result c.constant_multiple.result c.put_together.result same c.put_together.ensures c.coef_multiples.ensures c.constant_multiple.ensures

pub returns-clause-computed : goal.returns-clause-computed
returns-clause-computed c =
    let by = c.args.by in
    let same : to_z w128 (of_z w128 by) ≡ by = omega (arith, ints) in
    let small = multiple_is c.args.a.now (to_z w128 (of_z w128 by)) by c.coef_multiples.result c.constant_multiple.result c.put_together.result same c.put_together.ensures c.coef_multiples.ensures c.constant_multiple.ensures in
    computed c.put_together.result (multiple_of c.args.a.now by) (length-coefs_of (scaled_coefs c.args.a.now by)) small

pub returns-clause-values : goal.returns-clause-values
returns-clause-values c =
    let a = c.args.a.now in
    let by = c.args.by in
    let same : to_z w128 (of_z w128 by) ≡ by = omega (arith, ints) in
    let small = multiple_is a (to_z w128 (of_z w128 by)) by c.coef_multiples.result c.constant_multiple.result c.put_together.result same c.put_together.ensures c.coef_multiples.ensures c.constant_multiple.ensures in
    holds_of_some (λ f. (cells : ℕ → ℤ) → IsLeast (IsMultiple (values a cells) by) (values f cells)) (IsSmallForm (multiple_of a by)) (multiple_of a by) c.put_together.result small (λ cells. multiple_values a by cells c.requires)

pub returns-clause-ordered : goal.returns-clause-ordered
returns-clause-ordered c =
    let a = c.args.a.now in
    let by = c.args.by in
    let same : to_z w128 (of_z w128 by) ≡ by = omega (arith, ints) in
    let small = multiple_is a (to_z w128 (of_z w128 by)) by c.coef_multiples.result c.constant_multiple.result c.put_together.result same c.put_together.ensures c.coef_multiples.ensures c.constant_multiple.ensures in
    holds_of_some (λ f. f.constant.low ≤ℤ f.constant.high) (IsSmallForm (multiple_of a by)) (multiple_of a by) c.put_together.result small (ends_ordered (a.constant.low *ℤ by) (a.constant.high *ℤ by))
