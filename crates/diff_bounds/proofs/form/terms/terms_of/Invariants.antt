use Rattle.std.proofs.Common.{◌≡◌, ◌+◌}
use Rattle.diff_bounds.specs.Matrix.{word}
use Rattle.diff_bounds.specs.FormSums.{sum_of, IsWithin}
use Rattle.diff_bounds.specs.Upper.{terms, without, coef_at}
use Rattle.diff_bounds.proofs.form.terms.terms_of.Given as goal

abbrev pub invariant-loop-k : goal.invariant-loop-k
invariant-loop-k l = record {
  value : sum_of l.total ≡ terms (word (l.size + 1) l.m) (without l.x l.y (coef_at l.coefs)) l.k;
  small : IsWithin l.k l.total;
}
