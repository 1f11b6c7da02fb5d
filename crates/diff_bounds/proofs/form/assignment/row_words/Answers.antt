use Rattle.std.proofs.Common.{◌+◌, ℕ, ◌∙◌, arith, rules}
use Rattle.std.specs.Int.{w128}
use Rattle.std.proofs.lemmas.Int.{to_z-of_z}
use Rattle.diff_bounds.specs.Matrix.{word}
use Rattle.diff_bounds.specs.Numbers.{word_of}
use Rattle.diff_bounds.specs.Upper.{coef_at}
use Rattle.diff_bounds.specs.Assigned.{upper_less}
use Rattle.diff_bounds.proofs.Puts.{put_more}
use Rattle.diff_bounds.proofs.form.assignment.row_words.Goals as goal

pub loop-place-preserved : goal.loop-place-preserved
loop-place-preserved c =
    put_more (λ (k : ℕ). word_of (upper_less (word (c.args.size + 1) c.args.m.now) k (coef_at c.args.form.now.coefs) c.args.form.now.constant.high c.args.size)) c.loop-place.place c.loop-place.words _ (omega arith)
    (to_z-of_z w128 c.row_word.result (search rules) ∙ c.row_word.ensures) c.loop-place.invariant
