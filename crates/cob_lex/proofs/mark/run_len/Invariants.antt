use Rattle.std.proofs.Common.{◌≡◌, ◌+◌, length}
use Rattle.cob_lex.specs.Marks.{run_len}
use Rattle.cob_lex.proofs.mark.run_len.Given as goal

abbrev pub invariant-loop-rest : goal.invariant-loop-rest
invariant-loop-rest l = record {
  within : l.count + length l.rest ≡ length l.text;
  same : l.count + run_len l.rest ≡ run_len l.text;
}

abbrev pub decreases-loop-rest : goal.decreases-loop-rest
decreases-loop-rest l = length l.rest
