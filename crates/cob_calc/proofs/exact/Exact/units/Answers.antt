use Rattle.std.proofs.Common.{refl, rules, w32}
use Rattle.std.proofs.lemmas.Int.{to_z-of_z}
use mir.Syntax.{w128}
use Rattle.cob_calc.proofs.ExactLemmas.{quotient_units_of, quotient_over_of}
use Rattle.cob_calc.proofs.exact.Exact.units.Goals as goal

pub returns-in-Is : goal.returns-in-Is
returns-in-Is c =
    quotient_units_of c.args.digits c.args.scale c.args.mode c.in-Quotient.top c.in-Quotient.bottom _ c.decimals-up.result c.in-Is.units _ _ _ _ _ c.in-Quotient.is c.decimals-up.ensures
    (to_z-of_z w128 _ (search rules)) (to_z-of_z w128 _ (search rules)) (to_z-of_z w32 _ (search rules)) (to_z-of_z w128 _ (search rules)) c.in-Is.ensures.is.1 c.held.ensures

pub returns-in-Over : goal.returns-in-Over
returns-in-Over c =
    quotient_over_of c.args.digits c.args.scale c.args.mode c.in-Quotient.top c.in-Quotient.bottom _ c.decimals-up.result _ _ _ c.requires.digits c.in-Quotient.is c.decimals-up.ensures
    (to_z-of_z w128 _ (search rules)) (to_z-of_z w128 _ (search rules)) (to_z-of_z w32 _ (search rules)) (c.in-Over.ensures.over.0 refl).1
