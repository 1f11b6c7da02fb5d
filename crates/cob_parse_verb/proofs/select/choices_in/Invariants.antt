use Rattle.std.proofs.Common.{◌≡◌, ◌≤◌, length, map}
use Rattle.cob_tree.specs.Cues.{is, NotRelates, Whens}
use Rattle.cob_tree.specs.StmtView.{plain_sel}
use Rattle.cob_tree.specs.Takes.{takes_sel}
use Rattle.cob_parse_expr.specs.Steps.{signs}
use Rattle.cob_parse_verb.specs.Listed.{takes_listed}
use Rattle.cob_parse_verb.specs.Turning.{choice_at}
use Rattle.cob_parse_verb.proofs.ListSteps.{Listing}
use Rattle.cob_parse_verb.proofs.select.choices_in.Given as goal

abbrev pub invariant-choices : goal.invariant-choices
invariant-choices l = record {
  goes : Listing (is Whens) (choice_at l.room) (map plain_sel l.choices.items) (signs l.left) (signs l.lexemes);
  shorter : length l.left ≤ length l.lexemes;
  takes : l.takes_not ≡ takes_listed takes_sel (is Whens) (map plain_sel l.choices.items) NotRelates;
}

abbrev pub decreases-choices : goal.decreases-choices
decreases-choices l = length l.left
