use Rattle.std.proofs.Common.{◌≡◌, ◌+◌, length}
use Rattle.cob_lex.specs.Pieces.{prefixed, read, raw_tokens}
use Rattle.cob_lex.proofs.piece.raw_tokens.Given as goal

abbrev pub invariant-loop-rest : goal.invariant-loop-rest
invariant-loop-rest l = record {
  within : l.start + length l.rest ≡ length l.text;
  same : prefixed l.pieces.items (read l.start l.state 0 l.rest) ≡ raw_tokens l.text;
}

abbrev pub decreases-loop-rest : goal.decreases-loop-rest
decreases-loop-rest l = length l.rest
