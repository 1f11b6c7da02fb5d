use Rattle.std.proofs.Common.{◌≡◌, ◌+◌, ◌-ℤ◌, neg_ℤ, pos, get_or, to_z, of_z, arith, rules}
use Rattle.std.specs.Int.{w128}
use Rattle.std.proofs.lemmas.Int.{ints, to_z-of_z}
use Rattle.diff_bounds.proofs.Signs.{negative_along, positive_along}
use Rattle.diff_bounds.proofs.form.terms.term_of.Goals as goal

pub returns-else-coefficient-gt0-clause-value : goal.returns-else-coefficient-gt0-clause-value
returns-else-coefficient-gt0-clause-value c =
    let value = c.scaled-else-coefficient-gt0.ensures.value in
    let minus : to_z w128 (of_z w128 (pos 0 -ℤ to_z w128 (of_z w128 c.args.coefficient))) ≡ neg_ℤ c.args.coefficient = omega (arith, ints) in
    negative_along (c.args.size + 1) c.args.m.now c.args.place c.place_of-else-coefficient-gt0.result c.args.coefficient c.scaled-else-coefficient-gt0.result _ (to_z w128 (of_z w128 (pos 0 -ℤ to_z w128 (of_z w128 c.args.coefficient)))) (to_z w128 (of_z w128 (get_or c.args.m.now c.place_of-else-coefficient-gt0.result (pos 0)))) value
    (omega (arith, ints)) (to_z-of_z w128 c.scaled-else-coefficient-gt0.result (search rules)) minus c.place_of-else-coefficient-gt0.ensures.value (to_z-of_z w128 _ (search rules))

pub returns-then-coefficient-gt0-clause-value : goal.returns-then-coefficient-gt0-clause-value
returns-then-coefficient-gt0-clause-value c =
    positive_along (c.args.size + 1) c.args.m.now c.args.place c.place_of.result c.args.coefficient c.scaled.result _ (to_z w128 (of_z w128 c.args.coefficient)) (to_z w128 (of_z w128 (get_or c.args.m.now c.place_of.result (pos 0)))) c.scaled.ensures.value
    (omega (arith, ints)) (to_z-of_z w128 c.scaled.result (search rules)) (to_z-of_z w128 c.args.coefficient (search rules)) c.place_of.ensures.value (to_z-of_z w128 _ (search rules))
