use Rattle.std.proofs.Common.{◌≤◌, length}
use Rattle.cob_parse_expr.specs.Classes.{const_as}
use Rattle.cob_parse_data.specs.Reading.{range}
use Rattle.cob_parse_data.proofs.ListLoop.{Kept}
use Rattle.cob_parse_data.proofs.entry.more_ranges.Given as goal

abbrev pub invariant-values : goal.invariant-values
invariant-values l = record {
  kept : Kept const_as range l.values.items l.left l.lexemes;
  shorter : length l.left ≤ length l.lexemes;
}

abbrev pub decreases-values : goal.decreases-values
decreases-values l = length l.left
