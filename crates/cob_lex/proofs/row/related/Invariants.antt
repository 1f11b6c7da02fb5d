use Rattle.std.proofs.Common.{◌≡◌, ◌++◌, length}
use Rattle.cob_lex.specs.Rows.{related}
use Rattle.cob_lex.proofs.row.related.Given as goal

abbrev pub invariant-loop-rest : goal.invariant-loop-rest
invariant-loop-rest l = l.done.items ++ related 0 l.rest ≡ related 0 l.pieces

abbrev pub decreases-loop-rest : goal.decreases-loop-rest
decreases-loop-rest l = length l.rest
