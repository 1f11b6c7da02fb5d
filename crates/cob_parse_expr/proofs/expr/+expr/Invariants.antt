use Rattle.std.proofs.Common.{◌+◌, ◌*◌, ◌≤◌, length, map}
use Rattle.cob_tree.specs.Cues.{Scales, Signs}
use Rattle.cob_tree.specs.ExprView.{added, multiplied}
use Rattle.cob_parse_expr.specs.Classes.{scaling_of, sign_of}
use Rattle.cob_parse_expr.specs.Reading.{inner_at, fact_with, term_with}
use Rattle.cob_parse_expr.specs.Steps.{signs}
use Rattle.cob_parse_expr.proofs.Loop.{Goes}
use Rattle.cob_parse_expr.proofs.expr.+expr.Given as goal

abbrev pub decreases-expr_in : goal.decreases-expr_in
decreases-expr_in l = 7 * l.room + 6

abbrev pub decreases-summands_in : goal.decreases-summands_in
decreases-summands_in l = 7 * l.room + 5

abbrev pub decreases-term : goal.decreases-term
decreases-term l = 7 * l.room + 4

abbrev pub decreases-factors_in : goal.decreases-factors_in
decreases-factors_in l = 7 * l.room + 3

abbrev pub decreases-fact_in : goal.decreases-fact_in
decreases-fact_in l = 7 * l.room + 2

abbrev pub decreases-primary : goal.decreases-primary
decreases-primary l = 7 * l.room + 1

abbrev pub decreases-group : goal.decreases-group
decreases-group l = 7 * l.room

abbrev pub invariant-factors_in-factors : goal.invariant-factors_in-factors
invariant-factors_in-factors l = record {
  goes : Goes Scales scaling_of (fact_with (inner_at l.room)) (map multiplied l.factors.items) (signs l.left) (signs l.lexemes);
  shorter : length l.left ≤ length l.lexemes;
}

abbrev pub decreases-factors_in-factors : goal.decreases-factors_in-factors
decreases-factors_in-factors l = length l.left

abbrev pub invariant-summands_in-summands : goal.invariant-summands_in-summands
invariant-summands_in-summands l = record {
  goes : Goes Signs sign_of (term_with (inner_at l.room)) (map added l.summands.items) (signs l.left) (signs l.lexemes);
  shorter : length l.left ≤ length l.lexemes;
}

abbrev pub decreases-summands_in-summands : goal.decreases-summands_in-summands
decreases-summands_in-summands l = length l.left
