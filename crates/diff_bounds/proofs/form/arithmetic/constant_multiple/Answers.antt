use Rattle.std.proofs.Common.{◌≡◌, Some, ◌*ℤ◌, ◌∙◌, arith, to_z, of_z}
use Rattle.std.specs.Int.{w128}
use Rattle.std.proofs.lemmas.Int.{ints}
use Rattle.diff_bounds.proofs.Parts.{product_along, ends_small, span_from}
use Rattle.diff_bounds.proofs.form.arithmetic.constant_multiple.Goals as goal

pub returns : goal.returns
returns c =
    let by = c.args.by in
    let low = c.args.a.low in
    let high = c.args.a.high in
    let one = c.in_ok-one.one in
    let other = c.in_ok-other.other in
    let is_by : to_z w128 (of_z w128 by) ≡ by = omega (arith, ints) in
    let is_low : to_z w128 (of_z w128 low) ≡ low = omega (arith, ints) in
    let is_high : to_z w128 (of_z w128 high) ≡ high = omega (arith, ints) in
    let is_one : to_z w128 (of_z w128 one) ≡ one = omega (arith, ints) in
    let is_other : to_z w128 (of_z w128 other) ≡ other = omega (arith, ints) in
    let first = product_along low by (to_z w128 (of_z w128 low)) (to_z w128 (of_z w128 by)) (Some one) is_low is_by c.in_ok-one.ensures in
    let second = product_along high by (to_z w128 (of_z w128 high)) (to_z w128 (of_z w128 by)) (Some other) is_high is_by c.in_ok-other.ensures in (
      ends_small (low *ℤ by) (high *ℤ by) first.0 second.0,
      span_from c.between.result (to_z w128 (of_z w128 one)) (to_z w128 (of_z w128 other)) (low *ℤ by) (high *ℤ by) c.between.ensures (is_one ∙ first.1) (is_other ∙ second.1),
    )
