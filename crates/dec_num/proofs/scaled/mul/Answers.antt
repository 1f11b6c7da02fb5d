use Rattle.std.proofs.Common.{rules}
use Rattle.std.specs.Int.{w128}
use Rattle.std.proofs.lemmas.Int.{to_z-of_z}
use Rattle.dec_num.proofs.Exactness.{mul_is_exact}
use Rattle.dec_num.proofs.Summed.{product_fits, product_units}
use Rattle.dec_num.proofs.scaled.mul.Goals as goal

pub overflow_mul-a : goal.overflow_mul-a
overflow_mul-a c = product_fits c.args.a c.args.b _ _ c.requires (to_z-of_z w128 c.args.a.units (search rules)) (to_z-of_z w128 c.args.b.units (search rules))

pub returns-clause-units : goal.returns-clause-units
returns-clause-units c =
    product_units c.args.a c.args.b _ _ c.scaled.result.units c.requires (to_z-of_z w128 c.args.a.units (search rules)) (to_z-of_z w128 c.args.b.units (search rules)) c.scaled.ensures.units

pub returns-clause-value : goal.returns-clause-value
returns-clause-value c =
    mul_is_exact c.args.a c.args.b c.scaled.result c.scaled.ensures.scale
    (product_units c.args.a c.args.b _ _ c.scaled.result.units c.requires (to_z-of_z w128 c.args.a.units (search rules)) (to_z-of_z w128 c.args.b.units (search rules)) c.scaled.ensures.units)
