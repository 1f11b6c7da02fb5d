use Rattle.std.proofs.Common.{◌+◌}
use Rattle.diff_bounds.specs.Matrix.{word}
use Rattle.diff_bounds.specs.Numbers.{word_of}
use Rattle.diff_bounds.specs.Upper.{coef_at}
use Rattle.diff_bounds.specs.Assigned.{less_upper}
use Rattle.diff_bounds.proofs.Puts.{ArePut}
use Rattle.diff_bounds.proofs.form.assignment.column_words.Given as goal

abbrev pub invariant-loop-place : goal.invariant-loop-place
invariant-loop-place l = ArePut (λ k. word_of (less_upper (word (l.size + 1) l.m) k (coef_at l.form.coefs) l.form.constant.low l.size)) l.place l.words
