use Rattle.std.proofs.Common.{◌∙◌, rules}
use Rattle.std.specs.Int.{w128}
use Rattle.std.proofs.lemmas.Int.{to_z-of_z}
use Rattle.dec_num.proofs.Exactness.{align_is_exact, CanAlign_power}
use Rattle.dec_num.proofs.Quotients.{zero_read, nonzero_read}
use Rattle.dec_num.proofs.Summed.{aligned_fits, aligned_units, zero_units}
use Rattle.dec_num.proofs.scaled.align.Goals as goal

pub returns-then-a-eq0-clause-units : goal.returns-then-a-eq0-clause-units
returns-then-a-eq0-clause-units c = zero_units c.args.a c.args.scale c.scaled.result.units (zero_read c.args.a.units (search rules) c.if-a-eq0.true) c.scaled.ensures.units

pub returns-then-a-eq0-clause-value : goal.returns-then-a-eq0-clause-value
returns-then-a-eq0-clause-value c =
    align_is_exact c.args.a c.scaled.result c.args.scale c.requires.above c.scaled.ensures.scale
    (zero_units c.args.a c.args.scale c.scaled.result.units (zero_read c.args.a.units (search rules) c.if-a-eq0.true) c.scaled.ensures.units)

pub pow10-requires : goal.pow10-requires
pow10-requires c = CanAlign_power c.args.a c.args.scale (nonzero_read w128 c.args.a.units c.if-a-eq0.false) c.requires

pub overflow_mul-a : goal.overflow_mul-a
overflow_mul-a c =
    aligned_fits c.args.a c.args.scale _ _ c.requires (to_z-of_z w128 c.args.a.units (search rules))
    (to_z-of_z w128 c.pow10.result (record { sfits = c.pow10.type_inv }) ∙ c.pow10.ensures)

pub returns-clause-units : goal.returns-clause-units
returns-clause-units c =
    aligned_units c.args.a c.args.scale _ _ c.scaled-2.result.units c.requires (to_z-of_z w128 c.args.a.units (search rules))
    (to_z-of_z w128 c.pow10.result (record { sfits = c.pow10.type_inv }) ∙ c.pow10.ensures) c.scaled-2.ensures.units

pub returns-clause-value : goal.returns-clause-value
returns-clause-value c =
    align_is_exact c.args.a c.scaled-2.result c.args.scale c.requires.above c.scaled-2.ensures.scale
    (aligned_units c.args.a c.args.scale _ _ c.scaled-2.result.units c.requires (to_z-of_z w128 c.args.a.units (search rules))
    (to_z-of_z w128 c.pow10.result (record { sfits = c.pow10.type_inv }) ∙ c.pow10.ensures) c.scaled-2.ensures.units)
