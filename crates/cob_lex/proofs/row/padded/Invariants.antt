use Rattle.std.proofs.Common.{◌≡◌, ◌++◌, length, false}
use Rattle.cob_lex.specs.Rows.{padded}
use Rattle.cob_lex.proofs.row.padded.Given as goal

abbrev pub invariant-loop-rest : goal.invariant-loop-rest
invariant-loop-rest l = l.done.items ++ padded l.behind_stop l.rest ≡ padded false l.pieces

abbrev pub decreases-loop-rest : goal.decreases-loop-rest
decreases-loop-rest l = length l.rest
