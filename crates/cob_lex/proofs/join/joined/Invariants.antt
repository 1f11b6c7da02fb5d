use Rattle.std.proofs.Common.{◌≡◌, ◌≤◌, ◌+◌, [], length}
use Rattle.std.specs.List.{enumerate_from}
use Rattle.std.specs.Str.Lines.{lines}
use Rattle.cob_lex.specs.Text.{numbered_lines, kept, joined}
use Rattle.cob_lex.specs.Run.{IsRun, text}
use Rattle.cob_lex.proofs.join.joined.Given as goal

abbrev pub invariant-loop-rest : goal.invariant-loop-rest
invariant-loop-rest l = record {
  run : IsRun l.joining;
  bound : l.number + length l.rest ≤ 1048577;
  same : joined (text l.joining) (kept (enumerate_from l.number (lines l.rest))) ≡ joined [] (kept (numbered_lines l.bytes));
}

abbrev pub decreases-loop-rest : goal.decreases-loop-rest
decreases-loop-rest l = length l.rest
