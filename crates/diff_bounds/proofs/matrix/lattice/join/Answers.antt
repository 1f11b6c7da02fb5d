use Rattle.std.proofs.Common.{◌≡◌, ℕ, ℤ, pos, get_or, arith}
use Rattle.std.specs.Int.{int_max}
use Rattle.std.proofs.lemmas.Int.{ints, clamps}
use Rattle.diff_bounds.proofs.WordByWord.{done_more, left_more, join_row}
use Rattle.diff_bounds.proofs.matrix.lattice.join.Goals as goal

pub loop-k-preserved : goal.loop-k-preserved
loop-k-preserved c =
    let a = c.args.a.now in
    let b = c.args.b.now in
    let k = c.loop-k.k in
    record {
      done = done_more (λ (j : ℕ) (y : ℤ). y ≡ int_max (get_or a j (pos 0)) (get_or b j (pos 0))) c.loop-k.a k _ (omega (arith, c.requires.a.width)) c.loop-k.invariant.done
          (let same : get_or c.loop-k.a k (pos 0) ≡ get_or a k (pos 0) = c.loop-k.invariant.left k (omega arith) in omega (arith, ints, clamps));
      left = left_more a c.loop-k.a k _ c.loop-k.invariant.left;
    }

pub returns-clause-row : goal.returns-clause-row
returns-clause-row c = join_row c.args.size c.args.a.now c.args.b.now c.loop-k.a c.requires.a (omega arith) (record { words = λ j h. c.loop-k.invariant.done j (omega (arith, c.requires.a.width)) })
