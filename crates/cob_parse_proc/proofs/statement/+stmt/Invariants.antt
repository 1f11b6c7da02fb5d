use Rattle.std.proofs.Common.{◌≡◌, ◌+◌, ◌*◌, ◌-◌, ◌≤◌, ◌<◌, length, map}
use Rattle.cob_tree.specs.Stmt.{stmts_of, whens_of}
use Rattle.cob_tree.specs.StmtView.{plain_stmt, plain_when}
use Rattle.cob_tree.specs.Takes.{takes_stmts, takes_whens}
use Rattle.cob_parse_expr.specs.Steps.{signs}
use Rattle.cob_parse_proc.specs.Reading.{stmt_with, stmts_at}
use Rattle.cob_parse_proc.specs.StmtSteps.{may}
use Rattle.cob_parse_proc.proofs.StmtLoops.{Listed, Chosen}
use Rattle.cob_parse_proc.proofs.statement.+stmt.Given as goal

abbrev pub decreases-stmts_in : goal.decreases-stmts_in
decreases-stmts_in l = 8 * l.room

abbrev pub decreases-list_in : goal.decreases-list_in
decreases-list_in l = 8 * l.room + 1

abbrev pub decreases-phrase_in : goal.decreases-phrase_in
decreases-phrase_in l = 8 * l.room + 1

abbrev pub decreases-when_in : goal.decreases-when_in
decreases-when_in l = 8 * l.room + 2

abbrev pub decreases-tail_in : goal.decreases-tail_in
decreases-tail_in l = 8 * l.room + 2

abbrev pub decreases-branches_in : goal.decreases-branches_in
decreases-branches_in l = 8 * l.room + 2

abbrev pub decreases-body_in : goal.decreases-body_in
decreases-body_in l = 8 * l.room + 2

abbrev pub decreases-ends_in : goal.decreases-ends_in
decreases-ends_in l = 8 * l.room + 2

abbrev pub decreases-whens_in : goal.decreases-whens_in
decreases-whens_in l = 8 * l.room + 3

abbrev pub decreases-cases_in : goal.decreases-cases_in
decreases-cases_in l = 8 * l.room + 4

abbrev pub decreases-verb_in : goal.decreases-verb_in
decreases-verb_in l = 8 * l.room + 5

abbrev pub decreases-stmt_in : goal.decreases-stmt_in
decreases-stmt_in l = 8 * l.room + 6

abbrev pub invariant-whens_in-whens : goal.invariant-whens_in-whens
invariant-whens_in-whens l = record {
  chosen : Chosen (stmts_at l.room) l.room (map plain_when l.whens.items) (signs l.left) (signs l.lexemes);
  takes : l.takes_not ≡ may (takes_whens (whens_of (map plain_when l.whens.items)));
  shorter : length l.left ≤ length l.lexemes;
}

abbrev pub decreases-whens_in-whens : goal.decreases-whens_in-whens
decreases-whens_in-whens l = length l.left

abbrev pub invariant-stmts_in-stmts : goal.invariant-stmts_in-stmts
invariant-stmts_in-stmts l = record {
  listed : Listed (stmt_with (stmts_at (l.room - 1)) (l.room - 1)) (map plain_stmt l.stmts.items) (signs l.left) (signs l.lexemes);
  takes : l.takes_not ≡ may (takes_stmts (stmts_of (map plain_stmt l.stmts.items)));
  shorter : length l.left < length l.lexemes;
}

abbrev pub decreases-stmts_in-stmts : goal.decreases-stmts_in-stmts
decreases-stmts_in-stmts l = length l.left
