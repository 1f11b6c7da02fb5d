use Rattle.std.proofs.Common.{◌≤◌, length}
use Rattle.cob_tree.specs.Cues.{is, Modes}
use Rattle.cob_parse_expr.specs.Steps.{signs}
use Rattle.cob_parse_verb.specs.Lists.{opens_at}
use Rattle.cob_parse_verb.proofs.ListSteps.{Listing}
use Rattle.cob_parse_verb.proofs.list.files_in.Given as goal

abbrev pub invariant-files : goal.invariant-files
invariant-files l = record {
  goes : Listing (is Modes) opens_at l.files.items (signs l.left) (signs l.lexemes);
  shorter : length l.left ≤ length l.lexemes;
}

abbrev pub decreases-files : goal.decreases-files
decreases-files l = length l.left
