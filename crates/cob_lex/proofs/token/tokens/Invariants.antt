use Rattle.std.proofs.Common.{◌≡◌, ◌++◌, map, length}
use Rattle.cob_lex.specs.Canonical.{token}
use Rattle.cob_lex.specs.Known.{AreKnown}
use Rattle.cob_lex.proofs.token.tokens.Given as goal

abbrev pub invariant-loop-rest : goal.invariant-loop-rest
invariant-loop-rest l = (l.tokens.items ++ map (token l.text) l.rest ≡ map (token l.text) l.pieces) × AreKnown l.text l.rest

abbrev pub decreases-loop-rest : goal.decreases-loop-rest
decreases-loop-rest l = length l.rest
