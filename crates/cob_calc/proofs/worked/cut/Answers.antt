use Rattle.std.proofs.Common.{refl, rules, w32}
use Rattle.std.proofs.lemmas.Int.{to_z-of_z}
use mir.Syntax.{w128}
use Rattle.cob_calc.proofs.RestLemmas.{cut_is, cut_is_small}
use Rattle.cob_calc.proofs.worked.cut.Goals as goal

pub returns-in-Is : goal.returns-in-Is
returns-in-Is c =
    cut_is c.args.scale c.args.top c.args.bottom c.decimals.result c.in-Is.units _ _ _ _ _ c.decimals.ensures
    (to_z-of_z w128 _ (search rules)) (to_z-of_z w128 _ (search rules)) (to_z-of_z w32 _ (search rules)) (to_z-of_z w128 _ (search rules)) c.in-Is.ensures.is.1 c.scaled.ensures

pub returns-in-Over : goal.returns-in-Over
returns-in-Over c =
    cut_is_small c.args.scale c.args.top c.args.bottom c.decimals.result _ _ _ _ c.requires c.decimals.ensures
    (to_z-of_z w128 _ (search rules)) (to_z-of_z w128 _ (search rules)) (to_z-of_z w32 _ (search rules)) (c.in-Over.ensures.over.0 refl).1
