use Rattle.std.proofs.Common.{◌≤◌, length}
use Rattle.cob_tree.specs.declared.keyword.Keyword.TheVariants as key
use Rattle.cob_parse_expr.specs.LexemeClasses.{the}
use Rattle.cob_parse_data.specs.Reading.{fd}
use Rattle.cob_parse_data.proofs.ListLoop.{Kept}
use Rattle.cob_parse_data.proofs.file.fds.Given as goal

abbrev pub invariant-fds : goal.invariant-fds
invariant-fds l = record {
  kept : Kept (the key.Fd) fd l.fds.items l.left l.lexemes;
  shorter : length l.left ≤ length l.lexemes;
}

abbrev pub decreases-fds : goal.decreases-fds
decreases-fds l = length l.left
