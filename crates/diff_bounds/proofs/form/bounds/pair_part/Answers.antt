use Rattle.std.proofs.Common.{◌∙◌, ℕ, ℤ, pos, get_or, ap, to_z, of_z}
use Rattle.std.specs.Prelude.{unsigned_abs}
use Rattle.std.specs.Int.{w128}
use Rattle.std.proofs.lemmas.Int.{to_z-of_z}
use Rattle.diff_bounds.specs.Numbers.{number_of, times}
use Rattle.diff_bounds.specs.FormSums.{sum_of}
use Rattle.diff_bounds.proofs.Signs.{within_along}
use Rattle.diff_bounds.proofs.ReadAgain.{word_is, word_at_read, nine, below_next}
use Rattle.diff_bounds.proofs.form.bounds.pair_part.Goals as goal

pub place_of-requires-clause-few : goal.place_of-requires-clause-few
place_of-requires-clause-few c = nine c.args.size c.requires.size

pub place_of-requires-clause-row : goal.place_of-requires-clause-row
place_of-requires-clause-row c = below_next c.args.x c.args.size c.requires.x

pub place_of-requires-clause-column : goal.place_of-requires-clause-column
place_of-requires-clause-column c = below_next c.args.y c.args.size c.requires.y

pub bounds-m-place_of : goal.bounds-m-place_of
bounds-m-place_of c = rw c.requires.m.width c.place_of.ensures.within

pub scaled-requires-clause-factor : goal.scaled-requires-clause-factor
scaled-requires-clause-factor c = rw (to_z-of_z w128 c.args.factor c.ranges.factor) c.requires.factor

pub scaled-requires-clause-word : goal.scaled-requires-clause-word
scaled-requires-clause-word c = word_is c.args.size c.args.m.now c.place_of.result c.requires.m c.place_of.ensures.within

pub returns-clause-value : goal.returns-clause-value
returns-clause-value c =
    ap sum_of (to_z-of_z w128 c.scaled.result (record { sfits = c.scaled.type_inv })) ∙ c.scaled.ensures.value
    ∙ ap (λ (z : ℤ). times (unsigned_abs z) (number_of (to_z w128 (of_z w128 (get_or c.args.m.now c.place_of.result (pos 0)))))) (to_z-of_z w128 c.args.factor c.ranges.factor)
    ∙ ap (λ (z : ℤ). times (unsigned_abs c.args.factor) (number_of z)) (word_at_read c.args.size c.args.m.now c.place_of.result c.requires.m c.place_of.ensures.within)
    ∙ ap (λ (p : ℕ). times (unsigned_abs c.args.factor) (number_of (get_or c.args.m.now p (pos 0)))) c.place_of.ensures.value

pub returns-clause-small : goal.returns-clause-small
returns-clause-small c = within_along 1 c.scaled.result _ (to_z-of_z w128 c.scaled.result (record { sfits = c.scaled.type_inv })) c.scaled.ensures.small
