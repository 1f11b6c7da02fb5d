use Rattle.std.proofs.Common.{◌≡◌, ◌∙◌, ◌+◌, IfOk, sym, ap, subst, map, rules, arith}
use Rattle.std.specs.Option.{option_copied}
use Rattle.std.proofs.lemmas.Result.{IfOk-equal}
use Rattle.cob_tree.specs.declared.stmt.Stmt.{out-Stmt}
use Rattle.cob_tree.specs.Stmt as tree
use Rattle.cob_tree.specs.StmtView as tree_view
use Rattle.cob_program.specs.Act.{stmts_of}
use Rattle.cob_program.specs.ActView.{plain_stmt, plain_when}
use Rattle.cob_typed.specs.Lists.{found_behind, tree_phrase}
use Rattle.cob_typed.specs.Statements.{typed_stmts, typed_whens}
use Rattle.cob_typed.specs.Heads.{plain_head, tree_lists}
use Rattle.cob_typed.specs.Typing.{joined}
use Rattle.cob_typed_exprs.proofs.EachLemmas.{map_more}
use Rattle.cob_typed.proofs.ListLemmas.{stmts_from, whens_from, stmts_step, stmts_end, whens_step, whens_end, stmt_value, stmt_next, stmt_found, when_value, when_next, when_found, whens_behind, whens_none, joined_none}
use Rattle.cob_typed.proofs.StmtLemmas.{stmt_is, when_is_of, choice_found}
use Rattle.cob_typed.proofs.HeadLemmas.{made_is, next_is, found_is, on_ok_alike}
use Rattle.cob_typed.proofs.Weights.{phrase_weight, when_weight, stmt_within, when_within, lists_within}
use Rattle.cob_typed.proofs.statements.+lists.Goals as goal

pub add_stmts-loop-statement-preserved : goal.add_stmts-loop-statement-preserved
add_stmts-loop-statement-preserved t c =
    let s = c.args.scope.now in
    let l = c.loop-statement in
    let i = l.statement-index in
    let x = c.statement-item.result in
    let made = c.in-Ok.given in
    let told = c.in-Ok.ensures in
    let here = stmts_step c.args.list.now i x c.loop-statement-test.true c.statement-item.is in
    let rest = stmts_from c.args.list.now (i + 1) in record {
      value = stmt_value s l.next c.typed_stmt.new.next (tree_view.plain_stmt x) rest (map plain_stmt l.typed.items) (map plain_stmt c.push.new.self.items) (plain_stmt made) _ told.next told.value
          (map_more plain_stmt l.typed.items c.push.new.self.items made c.in_ok-push.ensures.items)
          (sym (ap (λ ys. joined (stmts_of (map plain_stmt l.typed.items)) (typed_stmts s l.next ys).value) here) ∙ l.invariant.value);
      next = stmt_next s l.next c.typed_stmt.new.next _ (tree_view.plain_stmt x) rest told.next (sym (ap (λ ys. (typed_stmts s l.next ys).next) here) ∙ l.invariant.next);
      found = stmt_found s l.next c.typed_stmt.new.next (tree_view.plain_stmt x) rest l.findings.items c.typed_stmt.new.findings.items _ told.next told.found
          (sym (ap (λ ys. found_behind l.findings.items (typed_stmts s l.next ys).found) here) ∙ l.invariant.found);
    }

pub add_stmts-returns-clause-value : goal.add_stmts-returns-clause-value
add_stmts-returns-clause-value t c =
    let l = c.loop-statement in
    let past = stmts_end c.args.list.now l.statement-index c.loop-statement-test.false in
    sym (ap (λ ys. joined (stmts_of (map plain_stmt l.typed.items)) (typed_stmts c.args.scope.now l.next ys).value) past ∙ joined_none (stmts_of (map plain_stmt l.typed.items))) ∙ l.invariant.value

pub add_stmts-returns-clause-next : goal.add_stmts-returns-clause-next
add_stmts-returns-clause-next t c =
    let l = c.loop-statement in
    sym (ap (λ ys. (typed_stmts c.args.scope.now l.next ys).next) (stmts_end c.args.list.now l.statement-index c.loop-statement-test.false)) ∙ l.invariant.next

pub add_stmts-returns-clause-found : goal.add_stmts-returns-clause-found
add_stmts-returns-clause-found t c =
    let l = c.loop-statement in
    sym (ap (λ ys. found_behind l.findings.items (typed_stmts c.args.scope.now l.next ys).found) (stmts_end c.args.list.now l.statement-index c.loop-statement-test.false)) ∙ l.invariant.found

pub typed_whens-loop-when-preserved : goal.typed_whens-loop-when-preserved
typed_whens-loop-when-preserved t c =
    let s = c.args.scope.now in
    let l = c.loop-when in
    let i = l.when-index in
    let x = c.when-item.result in
    let line = c.args.line in
    let looked = c.args.looked in
    let made = c.in-Ok.given in
    let told = c.in-Ok.ensures in
    let here = whens_step c.args.whens.now i x c.loop-when-test.true c.when-item.is in
    let rest = whens_from c.args.whens.now (i + 1) in record {
      value = when_value s line l.next c.typed_when.new.next looked (tree_view.plain_when x) rest (map plain_when l.typed.items) (map plain_when c.push.new.self.items) (plain_when made) _ told.next told.value
          (map_more plain_when l.typed.items c.push.new.self.items made c.in_ok-push.ensures.items)
          (sym (ap (λ ys. whens_behind (map plain_when l.typed.items) (typed_whens s line l.next looked ys).value) here) ∙ l.invariant.value);
      next = when_next s line l.next c.typed_when.new.next _ looked (tree_view.plain_when x) rest told.next (sym (ap (λ ys. (typed_whens s line l.next looked ys).next) here) ∙ l.invariant.next);
      found = when_found s line l.next c.typed_when.new.next looked (tree_view.plain_when x) rest l.findings.items c.typed_when.new.findings.items _ told.next told.found
          (sym (ap (λ ys. found_behind l.findings.items (typed_whens s line l.next looked ys).found) here) ∙ l.invariant.found);
    }

pub typed_whens-returns-clause-value : goal.typed_whens-returns-clause-value
typed_whens-returns-clause-value t c =
    let l = c.loop-when in
    let past = whens_end c.args.whens.now l.when-index c.loop-when-test.false in
    sym (ap (λ ys. whens_behind (map plain_when l.typed.items) (typed_whens c.args.scope.now c.args.line l.next c.args.looked ys).value) past ∙ whens_none (map plain_when l.typed.items)) ∙ l.invariant.value

pub typed_whens-returns-clause-next : goal.typed_whens-returns-clause-next
typed_whens-returns-clause-next t c =
    let l = c.loop-when in
    sym (ap (λ ys. (typed_whens c.args.scope.now c.args.line l.next c.args.looked ys).next) (whens_end c.args.whens.now l.when-index c.loop-when-test.false)) ∙ l.invariant.next

pub typed_whens-returns-clause-found : goal.typed_whens-returns-clause-found
typed_whens-returns-clause-found t c =
    let l = c.loop-when in
    sym (ap (λ ys. found_behind l.findings.items (typed_whens c.args.scope.now c.args.line l.next c.args.looked ys).found) (whens_end c.args.whens.now l.when-index c.loop-when-test.false)) ∙ l.invariant.found

pub typed_stmt-returns-clause-value : goal.typed_stmt-returns-clause-value
typed_stmt-returns-clause-value t c =
    let x = c.args.statement.now in
    let is = made_is c.args.scope.now c.args.next.now _ _ (tree_view.plain_stmt x) (tree_view.plain_verb (out-Stmt x).verb) (plain_head c.in-Ok-head_of.given) c.looked_in-looked.result (tree_lists c.lists_of-lists.result)
    c.in-Ok.given c.in-Ok.ensures.value (stmt_is x) c.in-Ok.ensures.next c.in-Ok-head_of.ensures.value c.looked_in-looked.ensures c.lists_of-lists.ensures in
    subst (λ y. IfOk c.stmt_of.result (λ made. plain_stmt made ≡ y)) is (c.stmt_of.ensures.value _ c.typed_lists-typed.ensures.value)

pub typed_stmt-returns-clause-next : goal.typed_stmt-returns-clause-next
typed_stmt-returns-clause-next t c =
    let x = c.args.statement.now in
    let is = next_is c.args.scope.now c.args.next.now _ _ (tree_view.plain_stmt x) (tree_view.plain_verb (out-Stmt x).verb) (plain_head c.in-Ok-head_of.given) c.looked_in-looked.result (tree_lists c.lists_of-lists.result)
    (stmt_is x) c.in-Ok.ensures.next c.in-Ok-head_of.ensures.value c.looked_in-looked.ensures c.lists_of-lists.ensures in
    on_ok_alike c.stmt_of.result c.typed_lists-typed.result _ c.stmt_of.ensures.ends (IfOk-equal c.typed_lists-typed.result _ _ _ c.typed_lists-typed.ensures.next is)

pub typed_stmt-returns-clause-found : goal.typed_stmt-returns-clause-found
typed_stmt-returns-clause-found t c =
    let x = c.args.statement.now in
    let is = found_is c.args.scope.now c.args.next.now _ _ (tree_view.plain_stmt x) (tree_view.plain_verb (out-Stmt x).verb) (plain_head c.in-Ok-head_of.given) c.looked_in-looked.result (tree_lists c.lists_of-lists.result)
    c.args.findings.now.items c.head_of.new.findings.items c.in-Ok-head_of.ensures.noted
    (stmt_is x) c.in-Ok.ensures.next c.in-Ok-head_of.ensures.value c.looked_in-looked.ensures c.lists_of-lists.ensures in
    on_ok_alike c.stmt_of.result c.typed_lists-typed.result _ c.stmt_of.ensures.ends (IfOk-equal c.typed_lists-typed.result _ _ _ c.typed_lists-typed.ensures.found is)

pub typed_when-returns-clause-found : goal.typed_when-returns-clause-found
typed_when-returns-clause-found t c =
    choice_found c.args.scope.now c.args.line c.args.next.now c.args.looked (tree_view.plain_when c.args.when.now) (map tree_view.plain_sel c.get.result.now) (tree.stmts_of (map tree_view.plain_stmt c.deref.result.now)) c.args.findings.now.items c.choices.new.findings.items _
    (rw (when_is_of c.args.when.now) (search rules)) c.in-Ok.ensures.noted c.in-Ok-typed_stmts.ensures.found

-- fewer statements for each call

pub add_stmts-typed_stmt-requires : goal.add_stmts-typed_stmt-requires
add_stmts-typed_stmt-requires t c =
    omega (arith, stmt_within c.args.list.now c.loop-statement.statement-index c.statement-item.result c.loop-statement-test.true c.statement-item.is)

pub typed_stmts-add_stmts-requires : goal.typed_stmts-add_stmts-requires
typed_stmts-add_stmts-requires t c = omega arith

pub typed_stmt-typed_lists-typed-requires : goal.typed_stmt-typed_lists-typed-requires
typed_stmt-typed_lists-typed-requires t c = omega (arith, lists_within c.args.statement.now (tree_lists c.lists_of-lists.result) c.lists_of-lists.ensures)

pub typed_lists-typed_whens-requires : goal.typed_lists-typed_whens-requires
typed_lists-typed_whens-requires t c = omega arith

pub typed_lists-typed_phrase-requires : goal.typed_lists-typed_phrase-requires
typed_lists-typed_phrase-requires t c = omega arith

pub typed_lists-typed_phrase-requires-2 : goal.typed_lists-typed_phrase-requires-2
typed_lists-typed_phrase-requires-2 t c = omega arith

pub typed_phrase-typed_stmts-requires : goal.typed_phrase-typed_stmts-requires
typed_phrase-typed_stmts-requires t c =
    let is : tree_phrase (option_copied c.args.phrase) ≡ tree.given (tree.stmts_of (map tree_view.plain_stmt c.deref.result.now)) = search rules in
    omega (arith, ap phrase_weight is)

pub typed_whens-typed_when-requires : goal.typed_whens-typed_when-requires
typed_whens-typed_when-requires t c =
    omega (arith, when_within c.args.whens.now c.loop-when.when-index c.when-item.result c.loop-when-test.true c.when-item.is)

pub typed_when-typed_stmts-requires : goal.typed_when-typed_stmts-requires
typed_when-typed_stmts-requires t c =
    let is : tree_view.plain_when c.args.when.now ≡ tree.MkWhen (map tree_view.plain_sel c.get.result.now) (tree.stmts_of (map tree_view.plain_stmt c.deref.result.now)) = rw (when_is_of c.args.when.now) (search rules) in
    omega (arith, ap when_weight is)
