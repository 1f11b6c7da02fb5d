use Rattle.std.proofs.Common.{◌≡◌, ◌+◌, ◌*◌, ℕ, ℤ, pos, rules, ◌∙◌, arith}
use Rattle.std.specs.Int.{w128}
use Rattle.std.proofs.lemmas.Int.{to_z-of_z}
use Rattle.std.proofs.lemmas.List.FromFn.{fill_by_all}
use Rattle.diff_bounds.specs.Lattice.{bottom_word}
use Rattle.diff_bounds.proofs.WordByWord.{done_more}
use Rattle.diff_bounds.proofs.rows.least.set_least_matrix.Goals as goal

pub loop-at-preserved : goal.loop-at-preserved
loop-at-preserved c =
    done_more (λ (j : ℕ) (y : ℤ). y ≡ bottom_word c.args.size j) c.loop-at.m c.loop-at.at _ (omega arith) c.loop-at.invariant (to_z-of_z w128 _ (search rules) ∙ c.least_word.ensures)

pub returns : goal.returns
returns c =
    fill_by_all (bottom_word c.args.size) c.loop-at.m ((c.args.size + 1) * (c.args.size + 1)) (pos 0) (omega (arith, c.requires.width))
    (λ j h. c.loop-at.invariant j (omega (arith, c.requires.width)))
