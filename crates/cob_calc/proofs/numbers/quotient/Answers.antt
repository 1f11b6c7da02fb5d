use Rattle.std.proofs.Common.{refl, rules, ap, of_z, w32}
use Rattle.std.proofs.lemmas.Int.{to_z-of_z}
use mir.Syntax.{w128}
use Rattle.cob_calc.proofs.NumberLemmas.{scale_of_words, places_of_words, quotient_of_words, no_overflow_of_words}
use Rattle.cob_calc.proofs.numbers.quotient.Goals as goal

pub quot-requires-clause-up : goal.quot-requires-clause-up
quot-requires-clause-up c =
    places_of_words c.args.a c.args.b _ c.decimals.result c.max-scale.result c.requires (λ e. c.if-a-eq0.false (ap (of_z w128) e)) (to_z-of_z w32 _ (search rules))
    (scale_of_words c.args.a c.args.b c.max.result c.max-scale.result c.max.ensures c.max-scale.ensures) c.decimals.ensures

pub returns-in-Is : goal.returns-in-Is
returns-in-Is c =
    quotient_of_words c.args.a c.args.b _ _ _ c.in-Is.units _ _ c.decimals.result c.max-scale.result
    (to_z-of_z w128 _ (search rules)) (to_z-of_z w128 _ (search rules)) (to_z-of_z w32 _ (search rules)) (to_z-of_z w128 _ (search rules))
    (scale_of_words c.args.a c.args.b c.max.result c.max-scale.result c.max.ensures c.max-scale.ensures) c.decimals.ensures c.in-Is.ensures.is c.scaled-in-Is.ensures

pub returns-in-Over : goal.returns-in-Over
returns-in-Over c =
    no_overflow_of_words c.args.a c.args.b _ _ _ c.decimals.result c.max-scale.result c.requires
    (to_z-of_z w128 _ (search rules)) (to_z-of_z w128 _ (search rules)) (to_z-of_z w32 _ (search rules))
    (scale_of_words c.args.a c.args.b c.max.result c.max-scale.result c.max.ensures c.max-scale.ensures) c.decimals.ensures (c.in-Over.ensures.over.0 refl)
