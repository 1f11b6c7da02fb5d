use Rattle.std.proofs.Common.{◌≤◌, length}
use Rattle.cob_parse_expr.specs.LexemeClasses.{name_symbol}
use Rattle.cob_parse_data.specs.Reading.{name}
use Rattle.cob_parse_data.proofs.ListLoop.{Kept}
use Rattle.cob_parse_data.proofs.file.more_names.Given as goal

abbrev pub invariant-names : goal.invariant-names
invariant-names l = record {
  kept : Kept name_symbol name l.names.items l.left l.lexemes;
  shorter : length l.left ≤ length l.lexemes;
}

abbrev pub decreases-names : goal.decreases-names
decreases-names l = length l.left
