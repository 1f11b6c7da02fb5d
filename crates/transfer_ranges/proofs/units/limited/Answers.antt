use Rattle.std.proofs.Common.{◌≡◌, ◌-◌, ◌^◌, pos, ◌*ℤ◌, Some, None, ap, ◌∙◌, to_z, of_z, arith}
use Rattle.std.specs.Int.{w128, int_min}
use Rattle.std.proofs.lemmas.Int.{ints}
use Rattle.transfer_ranges.proofs.Working.{limited_by}
use Rattle.transfer_ranges.proofs.units.limited.Goals as goal

pub returns-in-Some-clause-value : goal.returns-in-Some-clause-value
returns-in-Some-clause-value c =
    let size : to_z w128 (of_z w128 c.args.size) ≡ c.args.size = omega (arith, ints) in
    limited_by c.args.size c.limit_of-limit.result c.args.scale c.args.r (Some c.in-Some.units) c.requires.size c.requires.small
    (c.limit_of-limit.ensures ∙ ap (λ s. int_min (s *ℤ pos (10 ^ (c.args.r.scale - c.args.scale))) (pos (10 ^ 37))) size) c.in-Some.ensures.value

pub returns-in-None-clause-value : goal.returns-in-None-clause-value
returns-in-None-clause-value c =
    let size : to_z w128 (of_z w128 c.args.size) ≡ c.args.size = omega (arith, ints) in
    limited_by c.args.size c.limit_of-limit.result c.args.scale c.args.r None c.requires.size c.requires.small
    (c.limit_of-limit.ensures ∙ ap (λ s. int_min (s *ℤ pos (10 ^ (c.args.r.scale - c.args.scale))) (pos (10 ^ 37))) size) c.in-None.ensures.value
