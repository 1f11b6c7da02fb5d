use Rattle.std.proofs.Common.{◌≡◌, ◌+◌, ◌≤◌, length, false}
use Rattle.cob_lex.specs.Marks.{undoubled}
use Rattle.cob_lex.proofs.mark.content_len.Given as goal

abbrev pub invariant-loop-rest : goal.invariant-loop-rest
invariant-loop-rest l = record {
  within : l.count + length l.rest ≤ length l.inside;
  same : l.count + length (undoubled l.quote l.half l.rest) ≡ length (undoubled l.quote false l.inside);
}

abbrev pub decreases-loop-rest : goal.decreases-loop-rest
decreases-loop-rest l = length l.rest
