use Rattle.std.proofs.Common.{◌≤◌, length}
use Rattle.cob_parse_expr.specs.LexemeClasses.{of}
use Rattle.cob_parse_data.specs.Heads.{same_kind, select_symbol, select_kind, select_head_of}
use Rattle.cob_parse_data.specs.Reading.{select_body}
use Rattle.cob_parse_data.proofs.ClauseLoop.{Kept}
use Rattle.cob_parse_data.proofs.select.clauses.Given as goal

abbrev pub invariant-clauses : goal.invariant-clauses
invariant-clauses l = record {
  kept : Kept (same_kind select_kind) (of select_symbol) select_body select_head_of l.clauses.items l.left l.lexemes;
  shorter : length l.left ≤ length l.lexemes;
}

abbrev pub decreases-clauses : goal.decreases-clauses
decreases-clauses l = length l.left
