use Rattle.std.proofs.Common.{◌∙◌, ap, drop, length, set, rules, refl, arith}
use Rattle.std.specs.Int.{w128}
use Rattle.std.proofs.lemmas.Int.{to_z-of_z}
use Rattle.cert_text.specs.MatrixClaims.{claimed_word}
use Rattle.cert_text.proofs.MatrixFilling.{matrix_width, next_written, place_within}
use Rattle.cert_text.proofs.matrix_claims.set_matrix.Goals as goal

pub loop-k-preserved : goal.loop-k-preserved
loop-k-preserved c =
    next_written c.args.pack c.args.size c.args.bounds.now c.loop-k.k _ _ c.loop-k.m _ refl (omega arith) (omega arith) c.requires.bounds c.loop-k.invariant
    (ap (set c.loop-k.m _) (to_z-of_z w128 _ (search rules)))

pub bounds-m-bound : goal.bounds-m-bound
bounds-m-bound c =
    place_within c.args.pack c.args.size c.args.bounds.now _ _ c.loop-k.m c.requires.bounds (omega arith)
    (ap length c.loop-k.invariant ∙ matrix_width c.args.size (claimed_word (drop c.loop-k.k c.args.bounds.now) c.args.pack c.args.size))
