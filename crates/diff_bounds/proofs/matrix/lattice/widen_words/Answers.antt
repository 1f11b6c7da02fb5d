use Rattle.std.proofs.Common.{ℕ, ℤ, pos, get_or, sym, ◌∙◌, arith, rules}
use Rattle.std.specs.Int.{w128}
use Rattle.std.proofs.lemmas.Int.{to_z-of_z}
use Rattle.diff_bounds.specs.Widening.{IsWidened}
use Rattle.diff_bounds.proofs.WordByWord.{done_more, left_more, widened_along, widened_matrix, widened_row}
use Rattle.diff_bounds.proofs.matrix.lattice.widen_words.Goals as goal

pub loop-k-preserved : goal.loop-k-preserved
loop-k-preserved c =
    let a = c.args.a.now in
    let b = c.args.b.now in
    let k = c.loop-k.k in
    record {
      done = done_more (λ (j : ℕ) (y : ℤ). IsWidened c.args.thresholds.now (get_or a j (pos 0)) (get_or b j (pos 0)) y) c.loop-k.a k _ (omega (arith, c.requires.a.width)) c.loop-k.invariant.done
          (widened_along c.args.thresholds.now _ _ _ (get_or a k (pos 0)) (get_or b k (pos 0)) _
          (sym (to_z-of_z w128 _ (search rules) ∙ c.loop-k.invariant.left k (omega arith))) (sym (to_z-of_z w128 _ (search rules))) (to_z-of_z w128 _ (search rules)) c.widened_word.ensures);
      left = left_more a c.loop-k.a k _ c.loop-k.invariant.left;
    }

pub returns-clause-matrix : goal.returns-clause-matrix
returns-clause-matrix c = widened_matrix c.args.size c.args.thresholds.now c.args.a.now c.args.b.now c.loop-k.a c.requires.thresholds c.requires.a c.requires.b (omega arith) (record { words = λ j h. c.loop-k.invariant.done j (omega (arith, c.requires.a.width)) })

pub returns-clause-row : goal.returns-clause-row
returns-clause-row c = widened_row c.args.size c.args.thresholds.now c.args.a.now c.args.b.now c.loop-k.a c.requires.thresholds c.requires.a c.requires.b (omega arith) (record { words = λ j h. c.loop-k.invariant.done j (omega (arith, c.requires.a.width)) })
