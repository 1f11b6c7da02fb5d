use Rattle.std.proofs.Common.{◌≡◌, ◌-◌, ◌++◌, map}
use Rattle.std.specs.List.{range_with_len}
use Rattle.cob_lex.specs.Text.{mark_at}
use Rattle.cob_lex.specs.Run.{IsRun, text}
use Rattle.cob_lex.proofs.join.Joining.push_columns.Given as goal

abbrev pub invariant-loop-column : goal.invariant-loop-column
invariant-loop-column l = record {
  run : IsRun l.self;
  marks : text l.self ≡ text l.fn.self ++ map (mark_at l.number l.line) (range_with_len l.from (l.column - l.from));
}
