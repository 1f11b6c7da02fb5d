use Rattle.std.proofs.Common.{◌≤◌, length}
use Rattle.cob_tree.specs.declared.keyword.Keyword.TheVariants as key
use Rattle.cob_parse_expr.specs.LexemeClasses.{the}
use Rattle.cob_parse_data.specs.Reading.{select}
use Rattle.cob_parse_data.proofs.ListLoop.{Kept}
use Rattle.cob_parse_data.proofs.select.selects.Given as goal

abbrev pub invariant-selects : goal.invariant-selects
invariant-selects l = record {
  kept : Kept (the key.Select) select l.selects.items l.left l.lexemes;
  shorter : length l.left ≤ length l.lexemes;
}

abbrev pub decreases-selects : goal.decreases-selects
decreases-selects l = length l.left
