use Rattle.std.proofs.Common.{◌+◌, to_z, of_z, arith, rules}
use Rattle.std.specs.Int.{w128}
use Rattle.std.proofs.lemmas.Int.{ints, to_z-of_z}
use Rattle.diff_bounds.proofs.Signs.{within_along}
use Rattle.diff_bounds.proofs.form.bounds.rest_part.Goals as goal

pub returns-clause-small : goal.returns-clause-small
returns-clause-small c =
    within_along 9 c.plus.result (to_z w128 (of_z w128 c.plus.result)) (to_z-of_z w128 c.plus.result (search rules))
    (c.plus.ensures.small 8 (omega arith) (within_along 8 c.terms_of.result (to_z w128 (of_z w128 c.terms_of.result)) (to_z-of_z w128 c.terms_of.result (search rules)) c.terms_of.ensures.small))
