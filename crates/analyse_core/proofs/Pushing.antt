-- Steps of loops that push thresholds, or lists onto a list of them.
use Rattle.std.proofs.Common.{◌≡◌, ℕ, ◌+◌, true, List, [], ◌∷◌, ◌++◌, sym, ap, ◌∙◌}
use Rattle.std.specs.Prelude.{Vec, if◌then◌else◌}
use Rattle.std.specs.declared.alloc.Global.{Global}
use Rattle.std.proofs.lemmas.List.{map-append}
use Rattle.cob_program.specs.declared.act.Stmt as declared_stmt
use Rattle.cob_program.specs.declared.act.Stmt.{out-Stmt}
use Rattle.cob_program.specs.declared.act.Act.TheFolds.{fold_out-Stmt}
use Rattle.cob_program.specs.Act.{MkStmt, Act}
use Rattle.cob_program.specs.ActView.{plain_act, plain_stmt}
use Rattle.cob_program.proofs.Loops.{added}
use Rattle.analyse_core.specs.declared.mention.Mention.{Mention}
use Rattle.analyse_core.specs.Mentions.{lists_of, stmt_mentions}
use Rattle.analyse_core.specs.Reaching.{whole_mentions}
use Rattle.analyse_core.specs.Choice.{loops, loop_mentions}

pub list_pushed : {A : Type 0} (old new : List (Vec A Global)) (x : Vec A Global) (y : List A) (rest all left : List (List A)) →
    new ≡ old ++ x ∷ [] → x.items ≡ y → left ≡ y ∷ rest → lists_of old ++ left ≡ all → lists_of new ++ rest ≡ all
list_pushed old new x y rest all left grown is cut whole =
    added (lists_of old) (lists_of new) (y ∷ []) rest all left
    (ap lists_of grown ∙ map-append (λ v. v.items) old (x ∷ []) ∙ ap (λ z. lists_of old ++ z ∷ []) is) cut whole

-- ---- a PERFORM that loops

module _ (texts : List (List Mention)) (home : ℕ) where
  of_loop : (number line : ℕ) (a : Act) → loops a ≡ true →
      loop_mentions texts home (MkStmt number line a) ≡ whole_mentions texts (stmt_mentions (MkStmt number line a)) home ∷ []
  of_loop number line a e = ap (λ t. if t then whole_mentions texts (stmt_mentions (MkStmt number line a)) home ∷ [] else []) e

  loop_is : (s : declared_stmt.Stmt) → loops (plain_act (out-Stmt s).act) ≡ true →
      loop_mentions texts home (plain_stmt s) ≡ whole_mentions texts (stmt_mentions (plain_stmt s)) home ∷ []
  loop_is s e =
      let is : plain_stmt s ≡ MkStmt (out-Stmt s).number (out-Stmt s).line (plain_act (out-Stmt s).act) = fold_out-Stmt _ _ _ _ _ _ _ _ s in
      ap (loop_mentions texts home) is
      ∙ of_loop (out-Stmt s).number (out-Stmt s).line (plain_act (out-Stmt s).act) e
      ∙ ap (λ x. whole_mentions texts (stmt_mentions x) home ∷ []) (sym is)

  pub loop_pushed : (s : declared_stmt.Stmt) (old new : List (Vec Mention Global)) (x : Vec Mention Global) (seen own : List Mention) →
      new ≡ old ++ x ∷ [] → x.items ≡ whole_mentions texts seen home → seen ≡ own → own ≡ stmt_mentions (plain_stmt s) →
      loops (plain_act (out-Stmt s).act) ≡ true → lists_of new ≡ lists_of old ++ loop_mentions texts home (plain_stmt s)
  loop_pushed s old new x seen own grown is shown owned test =
      ap lists_of grown ∙ map-append (λ v. v.items) old (x ∷ [])
      ∙ ap (λ z. lists_of old ++ z ∷ []) (is ∙ ap (λ ms. whole_mentions texts ms home) (shown ∙ owned))
      ∙ ap (λ xs. lists_of old ++ xs) (sym (loop_is s test))
