use Rattle.std.proofs.Common.{◌≡◌, ◌+◌}
use Rattle.diff_bounds.specs.Matrix.{word}
use Rattle.diff_bounds.specs.Numbers.{word_of}
use Rattle.diff_bounds.specs.Upper.{by_pair, least_to, coef_at}
use Rattle.diff_bounds.proofs.form.bounds.least_bound.Given as goal

abbrev pub invariant-loop-k : goal.invariant-loop-k
invariant-loop-k l = l.best ≡ word_of (least_to l.k (λ x. least_to l.size (λ y. by_pair (word (l.size + 1) l.m) (coef_at l.coefs) l.high l.size x y (coef_at l.coefs x) (coef_at l.coefs y))))
