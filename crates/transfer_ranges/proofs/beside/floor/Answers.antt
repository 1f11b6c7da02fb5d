use Rattle.std.proofs.Common.{◌≡◌, ◌∙◌, ℤ, ap, to_z, of_z}
use Rattle.std.specs.Int.{w128, int_div_euclid}
use Rattle.std.proofs.lemmas.Int.{to_z-of_z}
use Rattle.transfer_ranges.proofs.Division.{floor_low, floor_next, floor_size}
use Rattle.transfer_ranges.proofs.beside.floor.Goals as goal

quotient_is : (c : goal.After-div_euclid) → to_z w128 (of_z w128 c.div_euclid.result) ≡ int_div_euclid c.args.x c.args.by
quotient_is c =
    to_z-of_z w128 c.div_euclid.result (record { sfits = c.div_euclid.type_inv }) ∙ c.div_euclid.ensures
    ∙ ap (λ (z : ℤ). int_div_euclid z (to_z w128 (of_z w128 c.args.by))) (to_z-of_z w128 c.args.x c.ranges.x) ∙ ap (int_div_euclid c.args.x) (to_z-of_z w128 c.args.by c.ranges.by)

pub returns-clause-low : goal.returns-clause-low
returns-clause-low c = floor_low c.args.x c.args.by _ c.requires.by (quotient_is c)

pub returns-clause-next : goal.returns-clause-next
returns-clause-next c = floor_next c.args.x c.args.by _ c.requires.by (quotient_is c)

pub returns-clause-size : goal.returns-clause-size
returns-clause-size c = floor_size c.args.x c.args.by _ c.requires.by (quotient_is c)
