use Rattle.std.proofs.Common.{length, to_z, of_z, ap, rules, refl, ◌∙◌}
use Rattle.std.specs.Int.{w128}
use Rattle.std.proofs.lemmas.Int.{to_z-of_z}
use Rattle.diff_bounds.specs.Lattice.{matrix_of}
use Rattle.cert_text.specs.Written.{plain_word}
use Rattle.cert_text.proofs.MatrixFilling.{plain_first, plain_more, plain_all}
use Rattle.cert_text.proofs.matrix_claims.set_plain.Goals as goal

pub loop-place-init : goal.loop-place-init
loop-place-init c =
    plain_first (to_z w128 (of_z w128 c.args.word)) c.args.size (length c.args.m.now) c.fill.new.self (search rules) c.requires.width

pub loop-place-preserved : goal.loop-place-preserved
loop-place-preserved c =
    plain_more (to_z w128 (of_z w128 c.args.word)) c.args.size c.loop-place.place _ _ c.loop-place.m c.loop-place-test.true refl refl c.loop-place.invariant

pub returns : goal.returns
returns c =
    plain_all (to_z w128 (of_z w128 c.args.word)) c.args.size c.loop-place.place c.loop-place.m c.loop-place-test.false c.loop-place.invariant
    ∙ ap (λ x. matrix_of c.args.size (plain_word x c.args.size)) (to_z-of_z w128 c.args.word (search rules))
