use Rattle.diff_bounds.specs.Results.{scaled_coefs}
use Rattle.diff_bounds.proofs.Coefs.{ArePut}
use Rattle.diff_bounds.proofs.form.arithmetic.coef_multiples.Given as goal

abbrev pub invariant-loop-k : goal.invariant-loop-k
invariant-loop-k l = ArePut (scaled_coefs l.a l.fn.by) l.k l.coefs
