-- Statements and WHENs by their parts.
use Rattle.std.proofs.Common.{◌≡◌, ℕ, List, ◌++◌, append-nil, map, sym, ap, ◌∙◌}
use Rattle.cob_tree.specs.declared.stmt.Stmt as declared_stmt
use Rattle.cob_tree.specs.declared.stmt.Stmt.{out-Stmt}
use Rattle.cob_tree.specs.declared.stmt.When as declared_when
use Rattle.cob_tree.specs.declared.stmt.When.{out-When}
use Rattle.cob_tree.specs.declared.stmt.Verb.TheFolds.{fold_out-Stmt, fold_out-When}
use Rattle.cob_tree.specs.Stmt as tree
use Rattle.cob_tree.specs.StmtView as tree_view
use Rattle.cob_data.specs.declared.end.Rule.{Rule}
use Rattle.cob_typed_exprs.specs.declared.finding.Finding.{Finding}
use Rattle.cob_typed_exprs.specs.Judged.{Broken, noted, each_of}
use Rattle.cob_typed_exprs.specs.Scope.{Scope}
use Rattle.cob_typed_conds.specs.declared.selections.Looked.{Looked}
use Rattle.cob_typed_conds.specs.Selections.{selection}
use Rattle.cob_typed.specs.Lists.{found_behind, tree_list}
use Rattle.cob_typed.specs.Statements.{found_on, typed_stmts}
use Rattle.cob_typed.specs.StatementSteps.{typed_when}
use Rattle.cob_typed.proofs.FoundLemmas.{found_append, found_noted}

pub stmt_is : (x : declared_stmt.Stmt) → tree_view.plain_stmt x ≡ tree.MkStmt (out-Stmt x).line (tree_view.plain_verb (out-Stmt x).verb)
stmt_is x = fold_out-Stmt _ _ _ _ _ _ _ _ x

pub when_is_of : (x : declared_when.When) → tree_view.plain_when x ≡ tree.MkWhen (map tree_view.plain_sel (out-When x).choices) (tree_list (out-When x).body)
when_is_of x = fold_out-When _ _ _ _ _ _ _ _ x

-- what is judged on a line, and then the rest
pub judged_found : (line : ℕ) (old mid new : List Finding) (b : Broken) (xs : List (Rule × ℕ)) → mid ≡ noted line old b → new ≡ found_behind mid xs → new ≡ found_behind old (found_on line b ++ xs)
judged_found line old mid new b xs first rest =
    rest ∙ ap (λ fs. found_behind fs xs) (first ∙ sym (found_noted line old b)) ∙ sym (found_append old (found_on line b) xs)

pub choice_found : (s : Scope) (line n : ℕ) (looked : Looked) (x : tree.When) (choices : List tree.Sel) (body : tree.Stmts) (old mid new : List Finding) → x ≡ tree.MkWhen choices body
    → mid ≡ noted line old (each_of (selection s looked) choices).broken → new ≡ found_behind mid (typed_stmts s n body).found → new ≡ found_behind old (typed_when s line n looked x).found
choice_found s line n looked x choices body old mid new is first rest =
    let b = (each_of (selection s looked) choices).broken in
    judged_found line old mid new b (typed_stmts s n body).found first rest
    ∙ sym (ap (λ y. found_behind old (typed_when s line n looked y).found) is ∙ ap (λ xs. found_behind old (found_on line b ++ xs)) (append-nil (typed_stmts s n body).found))
