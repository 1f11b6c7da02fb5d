use Rattle.std.proofs.Common.{ℕ, ℤ, pos, ◌≤ℤ◌, get_or, refl, sym, ap, subst, ◌∙◌, arith, rules}
use Rattle.std.specs.Int.{w128}
use Rattle.std.proofs.lemmas.Int.{to_z-of_z}
use Rattle.diff_bounds.specs.Matrix.{word, IsWord}
use Rattle.diff_bounds.specs.RowSums.{no_sum, IsBetter}
use Rattle.diff_bounds.proofs.RowSums.{sums_more, better_along, better_swapped, better_none}
use Rattle.std.proofs.lemmas.Int.{ints}
use Rattle.diff_bounds.proofs.matrix.one_row.lower_into.Goals as goal

pub better-requires-clause-best : goal.better-requires-clause-best
better-requires-clause-best c =
    subst (λ (x : ℤ). x ≤ℤ no_sum) (sym (to_z-of_z w128 _ (search rules) ∙ c.loop-row.invariant.sums.left c.loop-row.row (omega arith)))
    (c.requires.sums c.loop-row.row (omega arith))

pub better-requires-clause-number : goal.better-requires-clause-number
better-requires-clause-number c = subst (λ (x : ℤ). IsWord x) (sym c.loop-row.invariant.number) (c.requires.words c.args.over c.args.at c.requires.over c.requires.at)

pub better-requires-clause-word : goal.better-requires-clause-word
better-requires-clause-word c =
    let row = c.loop-row.row in
    subst (λ (x : ℤ). IsWord x) (sym (to_z-of_z w128 _ (search rules) ∙ ap (λ (p : ℕ). get_or c.args.m.now p (pos 0)) c.place_of-in-loop-row.ensures.value))
    (c.requires.words row c.args.over (omega arith) c.requires.over)

pub loop-row-preserved : goal.loop-row-preserved
loop-row-preserved c =
    let w = word c.args.places c.args.m.now in
    let row = c.loop-row.row in
    record {
      number = c.loop-row.invariant.number;
      sums = sums_more (λ (k : ℕ) (y x : ℤ). IsBetter y (w k c.args.over) (w c.args.over c.args.at) x) row c.args.sums.now c.loop-row.sums _ (omega arith)
          (better_swapped _ _ _ _ (better_along (get_or c.args.sums.now row (pos 0)) (w c.args.over c.args.at) (w row c.args.over) _ _ _ _ _
          (to_z-of_z w128 _ (search rules) ∙ c.loop-row.invariant.sums.left row (omega arith))
          c.loop-row.invariant.number
          (to_z-of_z w128 _ (search rules) ∙ ap (λ (p : ℕ). get_or c.args.m.now p (pos 0)) c.place_of-in-loop-row.ensures.value)
          (to_z-of_z w128 _ (search rules))
          c.better.ensures))
          c.loop-row.invariant.sums;
    }

pub better-requires-clause-bound : goal.better-requires-clause-bound
better-requires-clause-bound c = omega (arith, ints)

pub returns-after-loop-row : goal.returns-after-loop-row
returns-after-loop-row c i h = c.loop-row.invariant.sums.done i (omega arith)

pub returns-else-number-lt-NONE : goal.returns-else-number-lt-NONE
returns-else-number-lt-NONE c i h =
    let number = ap (λ (p : ℕ). get_or c.args.m.now p (pos 0)) c.place_of.ensures.value in
    better_swapped _ _ _ _ (better_none (get_or c.args.sums.now i (pos 0)) (word c.args.places c.args.m.now c.args.over c.args.at) (word c.args.places c.args.m.now i c.args.over) _ (omega (arith, ints, number)) refl)
