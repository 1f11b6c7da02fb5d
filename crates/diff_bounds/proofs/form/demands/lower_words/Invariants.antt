use Rattle.std.proofs.Common.{◌≡◌, ℕ, ◌+◌, ◌/◌, ◌%◌, ◌<◌, ◌≤◌, pos, get_or}
use Rattle.diff_bounds.specs.Matrix.{word}
use Rattle.diff_bounds.specs.Upper.{coef_at}
use Rattle.diff_bounds.specs.Demanded.{lowered}
use Rattle.diff_bounds.proofs.form.demands.lower_words.Given as goal

abbrev pub invariant-loop-k : goal.invariant-loop-k
invariant-loop-k l = record {
  done : (j : ℕ) → j < l.k → get_or l.m j (pos 0) ≡ lowered (word (l.size + 1) l.fn.m) (coef_at l.form.coefs) l.form.constant.low l.size (j / (l.size + 1)) (j % (l.size + 1));
  left : (j : ℕ) → l.k ≤ j → get_or l.m j (pos 0) ≡ get_or l.fn.m j (pos 0);
}
