use Rattle.std.proofs.Common.{ℕ, ℤ, ◌≤ℤ◌, arith}
use Rattle.std.proofs.lemmas.Int.{ints}
use Rattle.interval_domain.specs.Results.{IsSum}
use Rattle.diff_bounds.specs.Forms.{values, IsSmallForm}
use Rattle.diff_bounds.specs.Results.{sum_of, added_coefs, added_constant, IsExactly}
use Rattle.diff_bounds.proofs.Coefs.{length-coefs_of}
use Rattle.diff_bounds.proofs.Computed.{computed}
use Rattle.diff_bounds.proofs.Parts.{put_together_is, holds_of_some}
use Rattle.diff_bounds.proofs.Values.{sum_values}
use Rattle.diff_bounds.proofs.form.arithmetic.lin_add.Goals as goal

pub returns-clause-small : goal.returns-clause-small
returns-clause-small c =
    let a = c.args.a.now in
    let b = c.args.b.now in
    put_together_is (added_coefs a b) (added_constant a.constant b.constant) c.coef_sums.result c.constant_sum.result c.put_together.result c.put_together.ensures c.coef_sums.ensures c.constant_sum.ensures

pub returns-clause-computed : goal.returns-clause-computed
returns-clause-computed c =
    let a = c.args.a.now in
    let b = c.args.b.now in
    let small = put_together_is (added_coefs a b) (added_constant a.constant b.constant) c.coef_sums.result c.constant_sum.result c.put_together.result c.put_together.ensures c.coef_sums.ensures c.constant_sum.ensures in
    computed c.put_together.result (sum_of a b) (length-coefs_of (added_coefs a b)) small

pub returns-clause-values : goal.returns-clause-values
returns-clause-values c =
    let a = c.args.a.now in
    let b = c.args.b.now in
    let small = put_together_is (added_coefs a b) (added_constant a.constant b.constant) c.coef_sums.result c.constant_sum.result c.put_together.result c.put_together.ensures c.coef_sums.ensures c.constant_sum.ensures in
    holds_of_some (λ f. (cells : ℕ → ℤ) → IsExactly (IsSum (values a cells) (values b cells)) (values f cells)) (IsSmallForm (sum_of a b)) (sum_of a b) c.put_together.result small (λ cells. sum_values a b cells c.requires.a c.requires.b)

pub returns-clause-ordered : goal.returns-clause-ordered
returns-clause-ordered c =
    let a = c.args.a.now in
    let b = c.args.b.now in
    let small = put_together_is (added_coefs a b) (added_constant a.constant b.constant) c.coef_sums.result c.constant_sum.result c.put_together.result c.put_together.ensures c.coef_sums.ensures c.constant_sum.ensures in
    holds_of_some (λ f. f.constant.low ≤ℤ f.constant.high) (IsSmallForm (sum_of a b)) (sum_of a b) c.put_together.result small (omega (arith, ints))
