use Rattle.std.proofs.Common.{◌≡◌, ◌+◌, length, false}
use Rattle.cob_lex.specs.Marks.{literal_len}
use Rattle.cob_lex.proofs.MarkLemmas.{shifted}
use Rattle.cob_lex.proofs.mark.literal_len.Given as goal

abbrev pub invariant-loop-rest : goal.invariant-loop-rest
invariant-loop-rest l = record {
  within : l.count + length l.rest ≡ length l.text;
  same : shifted l.count (literal_len l.quote l.half l.rest) ≡ literal_len l.quote false l.text;
}

abbrev pub decreases-loop-rest : goal.decreases-loop-rest
decreases-loop-rest l = length l.rest
