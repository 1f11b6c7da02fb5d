use Rattle.std.proofs.Common.{◌≡◌, ◌+◌}
use Rattle.diff_bounds.specs.Matrix.{word}
use Rattle.diff_bounds.specs.Numbers.{word_of}
use Rattle.diff_bounds.specs.Upper.{by_pair, least_to, coef_at}
use Rattle.diff_bounds.proofs.form.bounds.bound_by_pairs.Given as goal

abbrev pub invariant-loop-k : goal.invariant-loop-k
invariant-loop-k l = l.best ≡ word_of (least_to l.k (λ y. by_pair (word (l.size + 1) l.m) (coef_at l.coefs) l.high l.size l.x y (coef_at l.coefs l.x) (coef_at l.coefs y)))
