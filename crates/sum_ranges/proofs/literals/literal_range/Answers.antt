use Rattle.std.proofs.Common.{◌∙◌, ◌≤◌, length, sym, ap, subst, pos, arith, to_z}
use Rattle.std.specs.Int.{w128}
use Rattle.std.proofs.lemmas.Int.{to_z_pos}
use Rattle.cob_program.specs.Values.{numeral}
use Rattle.sum_ranges.proofs.Numerals.{literal_digits, literal_units_small, literal_gives, literal_small}
use Rattle.sum_ranges.proofs.literals.literal_range.Goals as goal

pub numeral-units-requires : goal.numeral-units-requires
numeral-units-requires c = subst (λ xs. length xs ≤ 37) (sym c.get.ensures) (literal_digits c.args.number.now c.requires)

pub turned-requires : goal.turned-requires
turned-requires c =
    let u = to_z w128 c.numeral-units.result in
    let is = to_z_pos w128 c.numeral-units.result (omega (arith, c.numeral-units.ensures.bound)) ∙ ap pos (c.numeral-units.ensures.value ∙ ap (numeral 0) c.get.ensures) in
    literal_units_small c.args.number.now c.point.result u c.requires is c.point.ensures

pub returns-clause-value : goal.returns-clause-value
returns-clause-value c =
    let u = to_z w128 c.numeral-units.result in
    let is = to_z_pos w128 c.numeral-units.result (omega (arith, c.numeral-units.ensures.bound)) ∙ ap pos (c.numeral-units.ensures.value ∙ ap (numeral 0) c.get.ensures) in
    literal_gives c.args.number.now c.point.result c.turned.result u is c.point.ensures c.turned.ensures

pub returns-clause-small : goal.returns-clause-small
returns-clause-small c =
    let u = to_z w128 c.numeral-units.result in
    let is = to_z_pos w128 c.numeral-units.result (omega (arith, c.numeral-units.ensures.bound)) ∙ ap pos (c.numeral-units.ensures.value ∙ ap (numeral 0) c.get.ensures) in
    literal_small c.args.number.now c.turned.result c.requires (literal_gives c.args.number.now c.point.result c.turned.result u is c.point.ensures c.turned.ensures)
