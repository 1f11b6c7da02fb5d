use Rattle.std.proofs.Common.{◌≤◌, length}
use Rattle.cob_tree.specs.Cues.{is, Names}
use Rattle.reading.specs.Readers.{lead}
use Rattle.cob_parse_expr.specs.Classes.{name_of}
use Rattle.cob_parse_expr.specs.Steps.{signs}
use Rattle.cob_parse_verb.proofs.ListSteps.{Listing}
use Rattle.cob_parse_verb.proofs.list.names_in.Given as goal

abbrev pub invariant-names : goal.invariant-names
invariant-names l = record {
  goes : Listing (is Names) (lead name_of) l.names.items (signs l.left) (signs l.lexemes);
  shorter : length l.left ≤ length l.lexemes;
}

abbrev pub decreases-names : goal.decreases-names
decreases-names l = length l.left
