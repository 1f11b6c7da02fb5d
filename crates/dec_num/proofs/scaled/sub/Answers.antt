use Rattle.std.proofs.Common.{◌≡◌, ◌-ℤ◌, ◌∙◌, arith}
use Rattle.std.proofs.lemmas.Int.{ints}
use Rattle.dec_num.specs.Scaled.{units_at, joint_scale}
use Rattle.dec_num.proofs.Exactness.{sub_is_exact}
use Rattle.dec_num.proofs.Summed.{left_aligns, right_aligns, units_along, operand_small, difference_small, difference_units, difference_at_one_scale}
use Rattle.dec_num.proofs.scaled.sub.Goals as goal

pub align-left-requires : goal.align-left-requires
align-left-requires c = left_aligns c.args.a c.args.b c.max-scale.result c.max-scale.ensures c.requires.within c.requires.left

pub align-right-requires : goal.align-right-requires
align-right-requires c = right_aligns c.args.a c.args.b c.max-scale.result c.max-scale.ensures c.requires.within c.requires.right

-- the result's units, with both operands at the greater scale
units_are : (c : goal.After-scaled) → c.scaled.result.units ≡ units_at c.args.a (joint_scale c.args.a c.args.b) -ℤ units_at c.args.b (joint_scale c.args.a c.args.b)
units_are c =
    let left = units_along c.args.a c.max-scale.result (joint_scale c.args.a c.args.b) c.align-left.result.units c.max-scale.ensures c.align-left.ensures.units in
    let right = units_along c.args.b c.max-scale.result (joint_scale c.args.a c.args.b) c.align-right.result.units c.max-scale.ensures c.align-right.ensures.units in
    let first = operand_small c.args.a (joint_scale c.args.a c.args.b) c.align-left.result.units left c.requires.left in
    let second = operand_small c.args.b (joint_scale c.args.a c.args.b) c.align-right.result.units right c.requires.right in
    let small = difference_small c.args.a c.args.b c.align-left.result.units c.align-right.result.units c.requires left right in
    difference_units c.args.a c.args.b c.align-left.result.units c.align-right.result.units c.scaled.result.units left right (omega (arith, ints, c.scaled.ensures.units, first, second, small))

pub returns-clause-scale : goal.returns-clause-scale
returns-clause-scale c = c.scaled.ensures.scale ∙ c.max-scale.ensures

pub returns-clause-units : goal.returns-clause-units
returns-clause-units c = units_are c

pub returns-clause-value : goal.returns-clause-value
returns-clause-value c = sub_is_exact c.args.a c.args.b c.scaled.result (c.scaled.ensures.scale ∙ c.max-scale.ensures) (units_are c)

pub returns-clause-one_scale : goal.returns-clause-one_scale
returns-clause-one_scale c = difference_at_one_scale c.args.a c.args.b c.scaled.result (c.scaled.ensures.scale ∙ c.max-scale.ensures) (units_are c)
