use Rattle.std.proofs.Common.{◌+◌, ◌-◌, get_or, pos, to_z, of_z, ◌∙◌, ap, sym, ℤ, Some, refl, arith, rules}
use Rattle.std.specs.Int.{w128}
use Rattle.std.proofs.lemmas.Int.{ints, to_z-of_z}
use Rattle.diff_bounds.specs.Matrix.{word}
use Rattle.diff_bounds.specs.Numbers.{added, word_of}
use Rattle.diff_bounds.specs.Upper.{terms, without, coef_at}
use Rattle.diff_bounds.proofs.Signs.{pair_along, pair_apart, within_along}
use Rattle.diff_bounds.proofs.ReadAgain.{coef_within, coef_read, coef_small, small_again, pair_again}
use Rattle.diff_bounds.proofs.form.bounds.bound_by_pair.Goals as goal

pub returns : goal.returns
returns c =
    let f = get_or c.args.coefs.now (c.args.x - 1) (pos 0) in
    let is = c.if-not-is_pair.ensures.pair refl in
    pair_along (word (c.args.size + 1) c.args.m.now) (coef_at c.args.coefs.now) c.args.high c.args.size c.args.x c.args.y f (to_z w128 (of_z w128 f)) (coef_at c.args.coefs.now c.args.x) (coef_at c.args.coefs.now c.args.y)
    c.pair_part.result c.rest_part-rest.result c.plus_pair.result (to_z w128 (of_z w128 c.pair_part.result)) (to_z w128 (of_z w128 c.rest_part-rest.result)) (to_z w128 (of_z w128 c.cut_whole.result)) (to_z w128 (of_z w128 c.plus_pair.result))
    (to_z-of_z w128 c.cut_whole.result (search rules) ∙ c.cut_whole.ensures) (to_z-of_z w128 c.plus_pair.result (search rules)) c.plus_pair.ensures (to_z-of_z w128 c.pair_part.result (search rules)) (to_z-of_z w128 c.rest_part-rest.result (search rules))
    c.pair_part.ensures.value (c.rest_part-rest.ensures.value ∙ ap (λ (z : ℤ). added (terms (word (c.args.size + 1) c.args.m.now) (without c.args.x c.args.y (coef_at c.args.coefs.now)) c.args.size) (Some z)) (to_z-of_z w128 c.args.high (search rules)))
    (to_z-of_z w128 f (search rules)) (let p = is.positive in omega (arith, ints)) refl (let o = is.opposite in omega (arith, ints))

pub bounds-coefs-x : goal.bounds-coefs-x
bounds-coefs-x c = coef_within c.args.size c.args.x c.args.coefs.now c.requires.coefs c.requires.x.0 c.requires.x.1

pub bounds-coefs-y : goal.bounds-coefs-y
bounds-coefs-y c = coef_within c.args.size c.args.y c.args.coefs.now c.requires.coefs c.requires.y.0 c.requires.y.1

pub is_pair-requires-clause-factor : goal.is_pair-requires-clause-factor
is_pair-requires-clause-factor c = coef_small c.args.size c.args.x c.args.coefs.now c.requires.coefs c.requires.x.0 c.requires.x.1

pub is_pair-requires-clause-other : goal.is_pair-requires-clause-other
is_pair-requires-clause-other c = coef_small c.args.size c.args.y c.args.coefs.now c.requires.coefs c.requires.y.0 c.requires.y.1

pub returns-then-not-is_pair : goal.returns-then-not-is_pair
returns-then-not-is_pair c =
    let coefs = c.args.coefs.now in
    ap word_of (sym (pair_apart (word (c.args.size + 1) c.args.m.now) (coef_at coefs) c.args.high c.args.size c.args.x c.args.y (coef_at coefs c.args.x) (coef_at coefs c.args.y)
    (λ are. c.if-not-is_pair.ensures.apart refl (pair_again _ _ _ _
    (coef_read c.args.size c.args.x coefs c.requires.coefs c.requires.x.0 c.requires.x.1) (coef_read c.args.size c.args.y coefs c.requires.coefs c.requires.y.0 c.requires.y.1) are))))

pub rest_part-rest-requires-clause-high : goal.rest_part-rest-requires-clause-high
rest_part-rest-requires-clause-high c = small_again c.args.high c.requires.high

pub pair_part-requires-clause-factor : goal.pair_part-requires-clause-factor
pair_part-requires-clause-factor c = (c.if-not-is_pair.ensures.pair refl).positive

pub plus_pair-requires-clause-pair : goal.plus_pair-requires-clause-pair
plus_pair-requires-clause-pair c = within_along 1 c.pair_part.result _ (to_z-of_z w128 c.pair_part.result (record { sfits = c.pair_part.type_inv })) c.pair_part.ensures.small

pub plus_pair-requires-clause-rest : goal.plus_pair-requires-clause-rest
plus_pair-requires-clause-rest c =
    within_along 9 c.rest_part-rest.result _ (to_z-of_z w128 c.rest_part-rest.result (record { sfits = c.rest_part-rest.type_inv })) c.rest_part-rest.ensures.small
