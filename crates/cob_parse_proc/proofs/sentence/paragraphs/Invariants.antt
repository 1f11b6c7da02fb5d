use Rattle.std.proofs.Common.{◌≤◌, length, map}
use Rattle.cob_tree.specs.StmtView.{plain_paragraph}
use Rattle.cob_parse_data.proofs.ListLoop.{Kept}
use Rattle.cob_parse_expr.specs.LexemeClasses.{name_symbol}
use Rattle.cob_parse_proc.specs.Program.{limit, paragraph_at}
use Rattle.cob_parse_proc.proofs.sentence.paragraphs.Given as goal

abbrev pub invariant-paragraphs : goal.invariant-paragraphs
invariant-paragraphs l = record {
  kept : Kept name_symbol (paragraph_at limit) (map plain_paragraph l.paragraphs.items) l.left l.lexemes;
  shorter : length l.left ≤ length l.lexemes;
}

abbrev pub decreases-paragraphs : goal.decreases-paragraphs
decreases-paragraphs l = length l.left
