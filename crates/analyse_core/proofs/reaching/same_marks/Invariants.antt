use Rattle.std.proofs.Common.{◌≡◌, drop}
use Rattle.analyse_core.specs.Reaching.{same_marks}
use Rattle.analyse_core.proofs.reaching.same_marks.Given as goal

abbrev pub invariant-loop-k : goal.invariant-loop-k
invariant-loop-k l = same_marks (drop l.k l.next) (drop l.k l.marks) ≡ same_marks l.next l.marks
