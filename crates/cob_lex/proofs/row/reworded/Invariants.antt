use Rattle.std.proofs.Common.{◌≡◌, ◌++◌, length}
use Rattle.cob_lex.specs.Rows.{reworded}
use Rattle.cob_lex.proofs.row.reworded.Given as goal

abbrev pub invariant-loop-rest : goal.invariant-loop-rest
invariant-loop-rest l = l.done.items ++ reworded 0 l.rest ≡ reworded 0 l.pieces

abbrev pub decreases-loop-rest : goal.decreases-loop-rest
decreases-loop-rest l = length l.rest
