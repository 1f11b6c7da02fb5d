use Rattle.std.proofs.Common.{◌+◌}
use Rattle.diff_bounds.specs.Matrix.{word}
use Rattle.diff_bounds.specs.Numbers.{word_of}
use Rattle.diff_bounds.specs.Upper.{coef_at}
use Rattle.diff_bounds.specs.Assigned.{upper_less}
use Rattle.diff_bounds.proofs.Puts.{ArePut}
use Rattle.diff_bounds.proofs.form.assignment.row_words.Given as goal

abbrev pub invariant-loop-place : goal.invariant-loop-place
invariant-loop-place l = ArePut (λ k. word_of (upper_less (word (l.size + 1) l.m) k (coef_at l.form.coefs) l.form.constant.high l.size)) l.place l.words
