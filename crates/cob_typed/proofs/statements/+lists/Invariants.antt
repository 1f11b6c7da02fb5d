use Rattle.std.proofs.Common.{◌≡◌, ◌+◌, ◌*◌, map}
use Rattle.std.specs.Option.{option_copied}
use Rattle.cob_tree.specs.Stmt as tree
use Rattle.cob_tree.specs.StmtView as tree_view
use Rattle.cob_program.specs.Act.{stmts_of}
use Rattle.cob_program.specs.ActView.{plain_stmt, plain_when}
use Rattle.cob_typed.specs.Heads.{tree_lists}
use Rattle.cob_typed.specs.Lists.{found_behind, tree_phrase}
use Rattle.cob_typed.specs.Statements.{typed_stmts, typed_whens}
use Rattle.cob_typed.specs.Typing.{joined}
use Rattle.cob_typed.proofs.ListLemmas.{whens_behind, stmts_from, whens_from}
use Rattle.cob_typed.proofs.Weights.{stmts_weight, stmt_weight, phrase_weight, whens_weight, when_weight, lists_weight}
use Rattle.cob_typed.proofs.statements.+lists.Given as goal

abbrev pub invariant-add_stmts-loop-statement : goal.invariant-add_stmts-loop-statement
invariant-add_stmts-loop-statement l = record {
  value : joined (stmts_of (map plain_stmt l.typed.items)) (typed_stmts l.scope l.next (stmts_from l.list l.statement-index)).value ≡ joined (stmts_of (map plain_stmt l.initial.typed.items)) (typed_stmts l.scope l.initial.next (stmts_from l.list 0)).value;
  next : (typed_stmts l.scope l.next (stmts_from l.list l.statement-index)).next ≡ (typed_stmts l.scope l.initial.next (stmts_from l.list 0)).next;
  found : found_behind l.findings.items (typed_stmts l.scope l.next (stmts_from l.list l.statement-index)).found ≡ found_behind l.initial.findings.items (typed_stmts l.scope l.initial.next (stmts_from l.list 0)).found;
}

abbrev pub invariant-typed_whens-loop-when : goal.invariant-typed_whens-loop-when
invariant-typed_whens-loop-when l = record {
  value : whens_behind (map plain_when l.typed.items) (typed_whens l.scope l.line l.next l.looked (whens_from l.whens l.when-index)).value ≡ (typed_whens l.scope l.line l.initial.next l.looked (whens_from l.whens 0)).value;
  next : (typed_whens l.scope l.line l.next l.looked (whens_from l.whens l.when-index)).next ≡ (typed_whens l.scope l.line l.initial.next l.looked (whens_from l.whens 0)).next;
  found : found_behind l.findings.items (typed_whens l.scope l.line l.next l.looked (whens_from l.whens l.when-index)).found ≡ found_behind l.initial.findings.items (typed_whens l.scope l.line l.initial.next l.looked (whens_from l.whens 0)).found;
}

-- how many statements there are, and who calls whom for as many
abbrev pub decreases-typed_lists : goal.decreases-typed_lists
decreases-typed_lists l = lists_weight (tree_lists l.lists) * 8 + 6

abbrev pub decreases-typed_whens : goal.decreases-typed_whens
decreases-typed_whens l = whens_weight (tree.whens_of (map tree_view.plain_when l.whens.now)) * 8 + 5

abbrev pub decreases-typed_when : goal.decreases-typed_when
decreases-typed_when l = when_weight (tree_view.plain_when l.when.now) * 8 + 4

abbrev pub decreases-typed_phrase : goal.decreases-typed_phrase
decreases-typed_phrase l = phrase_weight (tree_phrase (option_copied l.phrase)) * 8 + 3

abbrev pub decreases-typed_stmts : goal.decreases-typed_stmts
decreases-typed_stmts l = stmts_weight (tree.stmts_of (map tree_view.plain_stmt l.list.now)) * 8 + 2

abbrev pub decreases-add_stmts : goal.decreases-add_stmts
decreases-add_stmts l = stmts_weight (tree.stmts_of (map tree_view.plain_stmt l.list.now)) * 8 + 1

abbrev pub decreases-typed_stmt : goal.decreases-typed_stmt
decreases-typed_stmt l = stmt_weight (tree_view.plain_stmt l.statement.now) * 8
