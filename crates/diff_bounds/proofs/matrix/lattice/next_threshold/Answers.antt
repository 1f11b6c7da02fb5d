use Rattle.std.proofs.Common.{◌+◌, inl, inr, arith, rules}
use Rattle.std.specs.Int.{w128}
use Rattle.std.proofs.lemmas.Int.{ints, to_z-of_z}
use Rattle.diff_bounds.proofs.WordByWord.{next_more, next_along}
use Rattle.diff_bounds.proofs.matrix.lattice.next_threshold.Goals as goal

pub loop-k-preserved : goal.loop-k-preserved
loop-k-preserved c =
    let ts = c.args.thresholds.now in
    let k = c.loop-k.k in
    let x = c.nearer-least.result in
    next_along ts (k + 1) _ x _ (to_z-of_z w128 _ (search rules))
    (next_more ts k _ _ x c.loop-k-test.true c.loop-k.invariant (omega (arith, ints))
    (λ h. let taken = c.nearer-least.ensures.taken (omega (arith, ints)) in omega (arith, ints, taken))
    (elim c.nearer-least.ensures.one [ inl e ↦ inl (omega (arith, ints)) | inr (h, e) ↦ inr (omega (arith, ints), omega (arith, ints)) ]))
