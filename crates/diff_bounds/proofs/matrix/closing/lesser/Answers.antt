use Rattle.std.proofs.Common.{arith}
use Rattle.std.proofs.lemmas.Int.{ints, clamps}
use Rattle.diff_bounds.proofs.Steps.{lesser_of}
use Rattle.diff_bounds.proofs.matrix.closing.lesser.Goals as goal

pub returns-then-second-lt-NO_PATH : goal.returns-then-second-lt-NO_PATH
returns-then-second-lt-NO_PATH c = lesser_of c.args.best c.args.first c.args.second _ (omega (arith, ints)) (omega (arith, ints)) (omega (arith, ints, clamps))
