use Rattle.std.proofs.Common.{◌^◌, ℤ, pos, ap, ◌∙◌, rules}
use Rattle.std.specs.Int.{w128, int_div_euclid}
use Rattle.std.proofs.lemmas.Int.{to_z-of_z}
use Rattle.sum_forms.proofs.Working.{part_fits, whole_there}
use Rattle.sum_forms.proofs.literals.whole_of.Goals as goal

pub units_of-requires-clause-fits : goal.units_of-requires-clause-fits
units_of-requires-clause-fits c =
    part_fits c.args.units _ c.args.scale c.requires.units c.requires.scale
    (to_z-of_z w128 _ (search rules) ∙ c.floor-part.ensures.value ∙ ap (λ (z : ℤ). int_div_euclid z (pos (10 ^ c.args.scale))) (to_z-of_z w128 c.args.units (search rules)))

pub returns-then-units-units_of-clause-value : goal.returns-then-units-units_of-clause-value
returns-then-units-units_of-clause-value c =
    whole_there c.args.units _ _ _ c.args.scale c.if-units-units_of.true
    (to_z-of_z w128 _ (search rules) ∙ c.floor-part.ensures.value ∙ ap (λ (z : ℤ). int_div_euclid z (pos (10 ^ c.args.scale))) (to_z-of_z w128 c.args.units (search rules)))
    (to_z-of_z w128 _ (search rules)) (to_z-of_z w128 _ (search rules) ∙ c.units_of.ensures)
