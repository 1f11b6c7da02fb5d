use Rattle.diff_bounds.specs.Results.{added_coefs}
use Rattle.diff_bounds.proofs.Coefs.{ArePut}
use Rattle.diff_bounds.proofs.form.arithmetic.coef_sums.Given as goal

abbrev pub invariant-loop-k : goal.invariant-loop-k
invariant-loop-k l = ArePut (added_coefs l.a l.b) l.k l.coefs
