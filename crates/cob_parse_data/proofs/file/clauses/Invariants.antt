use Rattle.std.proofs.Common.{◌≤◌, length}
use Rattle.cob_parse_expr.specs.LexemeClasses.{of}
use Rattle.cob_parse_data.specs.Heads.{same_kind, fd_symbol, fd_kind_of, fd_head_of}
use Rattle.cob_parse_data.specs.Reading.{fd_body}
use Rattle.cob_parse_data.proofs.ClauseLoop.{Kept}
use Rattle.cob_parse_data.proofs.file.clauses.Given as goal

abbrev pub invariant-clauses : goal.invariant-clauses
invariant-clauses l = record {
  kept : Kept (same_kind fd_kind_of) (of fd_symbol) fd_body fd_head_of l.clauses.items l.left l.lexemes;
  shorter : length l.left ≤ length l.lexemes;
}

abbrev pub decreases-clauses : goal.decreases-clauses
decreases-clauses l = length l.left
