use Rattle.std.proofs.Common.{ℕ, ℤ, pos, ◌≤ℤ◌, get_or, sym, ap, subst, ◌∙◌, arith, rules}
use Rattle.std.specs.Int.{w128}
use Rattle.std.proofs.lemmas.Int.{to_z-of_z}
use Rattle.diff_bounds.specs.Matrix.{word, IsWord}
use Rattle.diff_bounds.specs.RowSums.{no_sum, IsBetter}
use Rattle.diff_bounds.proofs.RowSums.{sums_more, better_along}
use Rattle.diff_bounds.proofs.matrix.one_row.lower_from.Goals as goal

pub better-requires-clause-best : goal.better-requires-clause-best
better-requires-clause-best c =
    subst (λ (x : ℤ). x ≤ℤ no_sum) (sym (to_z-of_z w128 _ (search rules) ∙ c.loop-column.invariant.sums.left c.loop-column.column (omega arith)))
    (c.requires.sums c.loop-column.column (omega arith))

pub better-requires-clause-number : goal.better-requires-clause-number
better-requires-clause-number c = subst (λ (x : ℤ). IsWord x) (sym c.loop-column.invariant.number) (c.requires.words c.args.at c.args.over c.requires.at c.requires.over)

pub better-requires-clause-word : goal.better-requires-clause-word
better-requires-clause-word c =
    let column = c.loop-column.column in
    subst (λ (x : ℤ). IsWord x) (sym (to_z-of_z w128 _ (search rules) ∙ ap (λ (p : ℕ). get_or c.args.m.now p (pos 0)) c.place_of-in-loop-column.ensures.value))
    (c.requires.words c.args.over column c.requires.over (omega arith))

pub loop-column-preserved : goal.loop-column-preserved
loop-column-preserved c =
    let w = word c.args.places c.args.m.now in
    let column = c.loop-column.column in
    record {
      number = c.loop-column.invariant.number;
      sums = sums_more (λ (k : ℕ) (y x : ℤ). IsBetter y (w c.args.at c.args.over) (w c.args.over k) x) column c.args.sums.now c.loop-column.sums _ (omega arith)
          (better_along (get_or c.args.sums.now column (pos 0)) (w c.args.at c.args.over) (w c.args.over column) _ _ _ _ _
          (to_z-of_z w128 _ (search rules) ∙ c.loop-column.invariant.sums.left column (omega arith))
          c.loop-column.invariant.number
          (to_z-of_z w128 _ (search rules) ∙ ap (λ (p : ℕ). get_or c.args.m.now p (pos 0)) c.place_of-in-loop-column.ensures.value)
          (to_z-of_z w128 _ (search rules))
          c.better.ensures)
          c.loop-column.invariant.sums;
    }
