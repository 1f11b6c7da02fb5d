use Rattle.std.proofs.Common.{◌≡◌, ℕ, ℤ, pos, get_or, arith}
use Rattle.std.specs.Int.{int_min}
use Rattle.std.proofs.lemmas.Int.{ints, clamps}
use Rattle.diff_bounds.proofs.WordByWord.{done_more, left_more}
use Rattle.diff_layer.proofs.SameWords.{lesser_is, lesser_is_matrix}
use Rattle.diff_layer.proofs.pack.matrix_images.lower_to.Goals as goal

pub loop-k-preserved : goal.loop-k-preserved
loop-k-preserved c =
    let a = c.args.m.now in
    let b = c.args.other.now in
    let k = c.loop-k.k in
    record {
      done = done_more (λ (j : ℕ) (y : ℤ). y ≡ int_min (get_or a j (pos 0)) (get_or b j (pos 0))) c.loop-k.m k _ (omega arith) c.loop-k.invariant.done
          (let same : get_or c.loop-k.m k (pos 0) ≡ get_or a k (pos 0) = c.loop-k.invariant.left k (omega arith) in omega (arith, ints, clamps));
      left = left_more a c.loop-k.m k _ c.loop-k.invariant.left;
    }

pub returns-clause-value : goal.returns-clause-value
returns-clause-value c =
    lesser_is c.args.size c.args.m.now c.args.other.now c.loop-k.m (omega (arith, c.requires.m.width)) (λ k h. c.loop-k.invariant.done k (omega (arith, c.requires.m.width)))

pub returns-clause-matrix : goal.returns-clause-matrix
returns-clause-matrix c =
    lesser_is_matrix c.args.size c.args.m.now c.args.other.now c.loop-k.m c.requires.m c.requires.other (omega (arith, c.requires.m.width))
    (λ k h. c.loop-k.invariant.done k (omega (arith, c.requires.m.width)))
