use Rattle.std.proofs.Common.{zero, suc, arith}
use Rattle.reading.proofs.BracketsLaw.{tree_law}
use Rattle.reading.proofs.laws.brackets_are_read.Goals as goal

pub returns : goal.returns
returns c room = tree_law room zero (suc room) (omega arith)
