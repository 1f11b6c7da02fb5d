use Rattle.std.proofs.Common.{◌≡◌, ◌+◌, ◌*◌, ◌≤◌, length, map}
use Rattle.cob_tree.specs.Cues.{Ands, Ors}
use Rattle.cob_tree.specs.CondView.{plain_neg, plain_conj}
use Rattle.cob_parse_expr.specs.Classes.{and_of, or_of}
use Rattle.cob_parse_expr.specs.Reading.{inner_at}
use Rattle.cob_parse_expr.specs.CondReading.{paren_at, neg_with, conj_with}
use Rattle.cob_parse_expr.specs.CondSteps.{last_neg, last_conj}
use Rattle.cob_parse_expr.specs.Steps.{signs, behind_word}
use Rattle.cob_parse_expr.proofs.Loop.{Goes}
use Rattle.cob_parse_expr.proofs.cond.+cond.Given as goal

abbrev pub decreases-cond_in : goal.decreases-cond_in
decreases-cond_in l = 9 * l.room + 8

abbrev pub decreases-conjs : goal.decreases-conjs
decreases-conjs l = 9 * l.room + 7

abbrev pub decreases-conj : goal.decreases-conj
decreases-conj l = 9 * l.room + 6

abbrev pub decreases-negs : goal.decreases-negs
decreases-negs l = 9 * l.room + 5

abbrev pub decreases-neg : goal.decreases-neg
decreases-neg l = 9 * l.room + 4

abbrev pub decreases-negated : goal.decreases-negated
decreases-negated l = 9 * l.room + 3

abbrev pub decreases-plain : goal.decreases-plain
decreases-plain l = 9 * l.room + 2

abbrev pub decreases-further : goal.decreases-further
decreases-further l = 9 * l.room + 2

abbrev pub decreases-subject : goal.decreases-subject
decreases-subject l = 9 * l.room + 1

abbrev pub decreases-paren : goal.decreases-paren
decreases-paren l = 9 * l.room

abbrev pub invariant-negs-negs : goal.invariant-negs-negs
invariant-negs-negs l = record {
  goes : Goes Ands and_of (neg_with (paren_at l.room) (inner_at l.room)) (map behind_word (map plain_neg l.negs.items)) (signs l.left) (signs l.lexemes);
  shorter : length l.left ≤ length l.lexemes;
  takes : l.takes_not ≡ last_neg l.before (map plain_neg l.negs.items);
}

abbrev pub decreases-negs-negs : goal.decreases-negs-negs
decreases-negs-negs l = length l.left

abbrev pub invariant-conjs-conjs : goal.invariant-conjs-conjs
invariant-conjs-conjs l = record {
  goes : Goes Ors or_of (conj_with (paren_at l.room) (inner_at l.room)) (map behind_word (map plain_conj l.conjs.items)) (signs l.left) (signs l.lexemes);
  shorter : length l.left ≤ length l.lexemes;
  takes : l.takes_not ≡ last_conj l.before (map plain_conj l.conjs.items);
}

abbrev pub decreases-conjs-conjs : goal.decreases-conjs-conjs
decreases-conjs-conjs l = length l.left
