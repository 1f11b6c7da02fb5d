use Rattle.std.proofs.Common.{ℤ, refl, sym, subst, arith, rules}
use Rattle.std.specs.Int.{w128}
use Rattle.std.proofs.lemmas.Int.{to_z-of_z}
use Rattle.diff_bounds.specs.Matrix.{IsWord}
use Rattle.diff_bounds.proofs.RowSums.{lowered_along, rows_more}
use Rattle.diff_bounds.proofs.Asked.{pair_again}
use Rattle.diff_bounds.proofs.matrix.one_row.lower_words.Goals as goal

pub lower_row-requires-clause-words : goal.lower_row-requires-clause-words
lower_row-requires-clause-words c j h =
    let row = c.loop-row.row in
    subst (λ (x : ℤ). IsWord x) (sym (c.loop-row.invariant.left row j (omega arith) (omega arith) h)) (c.requires.words row j (omega arith) h)

pub loop-row-preserved : goal.loop-row-preserved
loop-row-preserved c =
    rows_more c.args.places c.args.m.now c.args.into.now c.args.from.now c.loop-row.row c.loop-row.m c.lower_row.new.m (omega arith) c.loop-row.invariant
    (λ j h. lowered_along _ _ _ _ _ _ _ _ refl (to_z-of_z w128 _ (search rules)) refl refl (c.lower_row.ensures.row j h))
    c.lower_row.ensures.others

pub lower_row-requires-clause-first : goal.lower_row-requires-clause-first
lower_row-requires-clause-first c = pair_again _ (c.requires.into c.loop-row.row c.loop-row-test.true)

pub lower_row-requires-clause-from : goal.lower_row-requires-clause-from
lower_row-requires-clause-from c = c.requires.from

pub returns : goal.returns
returns c = record { words = λ i j h. c.loop-row.invariant.done i j (omega arith) }
