use Rattle.std.proofs.Common.{ℕ, ℤ, pos, get_or, refl, sym, ap, subst, ◌∙◌, arith, rules}
use Rattle.std.specs.Int.{w128}
use Rattle.std.proofs.lemmas.Int.{to_z-of_z}
use Rattle.diff_bounds.specs.Matrix.{IsWord}
use Rattle.diff_bounds.proofs.RowSums.{lowered_along, columns_more}
use Rattle.diff_bounds.proofs.Asked.{pair_again}
use Rattle.diff_bounds.proofs.matrix.one_row.lower_row.Goals as goal

pub lowered-requires-clause-word : goal.lowered-requires-clause-word
lowered-requires-clause-word c =
    let column = c.loop-column.column in
    subst (λ (x : ℤ). IsWord x) (sym (to_z-of_z w128 _ (search rules) ∙ ap (λ (p : ℕ). get_or c.loop-column.m p (pos 0)) c.place_of-at.ensures.value ∙ c.loop-column.invariant.left column (omega arith) (omega arith)))
    (c.requires.words column (omega arith))

pub loop-column-preserved : goal.loop-column-preserved
loop-column-preserved c =
    let n = c.args.places in
    let m = c.loop-column.m in
    let column = c.loop-column.column in
    let columns = c.loop-column.invariant in
    columns_more n c.args.m.now c.args.from.now _ c.args.row column m c.place_of-at.result _ (search rules) c.requires.row (omega arith) c.place_of-at.ensures.value columns
    (lowered_along _ _ _ _ _ _ _ _
    (to_z-of_z w128 _ (search rules) ∙ ap (λ (p : ℕ). get_or m p (pos 0)) c.place_of-at.ensures.value ∙ columns.left column (omega arith) (omega arith))
    refl
    (to_z-of_z w128 _ (search rules))
    (to_z-of_z w128 _ (search rules))
    c.lowered.ensures)

pub lowered-requires-clause-first : goal.lowered-requires-clause-first
lowered-requires-clause-first c = pair_again c.args.first c.requires.first

pub lowered-requires-clause-second : goal.lowered-requires-clause-second
lowered-requires-clause-second c = pair_again _ (c.requires.from c.loop-column.column c.loop-column-test.true)

pub returns-clause-row : goal.returns-clause-row
returns-clause-row c j h =
    lowered_along _ _ _ _ _ _ _ _ refl (to_z-of_z w128 c.args.first c.ranges.first) refl refl (c.loop-column.invariant.done j (omega arith))

pub returns-clause-others : goal.returns-clause-others
returns-clause-others c = c.loop-column.invariant.others
