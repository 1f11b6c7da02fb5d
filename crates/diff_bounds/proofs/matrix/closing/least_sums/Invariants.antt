use Rattle.diff_bounds.specs.Matrix.{word}
use Rattle.diff_bounds.specs.Sums.{IsTight, AreShort}
use Rattle.diff_bounds.proofs.matrix.closing.least_sums.Given as goal

abbrev pub invariant-loop-via : goal.invariant-loop-via
invariant-loop-via l = record {
  tight : IsTight l.places l.via (word l.places l.fn.m) (word l.places l.m);
  short : AreShort l.places (word l.places l.m);
}
