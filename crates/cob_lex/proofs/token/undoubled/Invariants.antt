use Rattle.std.proofs.Common.{◌≡◌, ◌++◌, length, false}
use Rattle.cob_lex.specs.Marks.{undoubled}
use Rattle.cob_lex.proofs.token.undoubled.Given as goal

abbrev pub invariant-loop-rest : goal.invariant-loop-rest
invariant-loop-rest l = l.bytes.items ++ undoubled l.quote l.half l.rest ≡ undoubled l.quote false l.inside

abbrev pub decreases-loop-rest : goal.decreases-loop-rest
decreases-loop-rest l = length l.rest
