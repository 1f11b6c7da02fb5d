use Rattle.std.proofs.Common.{◌≤◌, length, map}
use Rattle.reading.specs.Readers.{lead}
use Rattle.cob_tree.specs.Cues.{Qualifies}
use Rattle.cob_parse_expr.specs.Classes.{name_of, of_of}
use Rattle.cob_parse_expr.specs.Steps.{signs, behind_word}
use Rattle.cob_parse_expr.proofs.Loop.{Goes}
use Rattle.cob_parse_expr.proofs.operand.qualifiers.Given as goal

abbrev pub invariant-names : goal.invariant-names
invariant-names l = record {
  goes : Goes Qualifies of_of (lead name_of) (map behind_word l.names.items) (signs l.left) (signs l.lexemes);
  shorter : length l.left ≤ length l.lexemes;
}

abbrev pub decreases-names : goal.decreases-names
decreases-names l = length l.left
