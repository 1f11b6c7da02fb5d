use Rattle.std.proofs.Common.{◌≡◌, ◌++◌, ◌∷◌, [], List, Bool, not, ◌&&◌, length, map, is_some, arith, refl, ap, sym, subst, ◌∙◌, ◌-◌}
use Rattle.std.proofs.lemmas.List.{map_push, length-map}
use Rattle.std.specs.Option.{option_map}
use Rattle.std.specs.Prelude.{IfOk}
use Rattle.cob_tree.specs.declared.keyword.Keyword.{Keyword}
use Rattle.cob_tree.specs.Stmt.{stmts_of, whens_of, Stmt, When}
use Rattle.cob_tree.specs.StmtView.{plain_sel, plain_stmt, plain_tail, plain_verb, plain_when}
use Rattle.cob_tree.specs.Takes.{takes_stmts, takes_whens, takes_when, takes_stmt}
use Rattle.cob_parse_expr.specs.Steps.{signs}
use Rattle.cob_parse_expr.proofs.LexemeSteps.{gives_as, signs_length}
use Rattle.cob_parse_verb.specs.declared.head.Head.{Head}
use Rattle.cob_parse_verb.specs.Heads.{end_word}
use Rattle.cob_parse_verb.specs.VerbSteps.{plain_arithmetic, plain_head}
use Rattle.cob_parse_proc.specs.Reading.{stmt_with, stmts_at}
use Rattle.cob_parse_proc.specs.StmtSteps.{may, phrase_may, tail_may, plain_list, plain_phrase, tail_at, branches_at, cases_at, body_at, ends_at, verb_at, verb_may}
use Rattle.cob_parse_proc.proofs.NotLemmas.{stmts_may, whens_may}
use Rattle.cob_parse_proc.proofs.VerbSteps.{stmt_wrong, when_wrong}
use Rattle.cob_parse_proc.proofs.StmtLoops.{Listed, listed_wrong, listed_first, listed_on, listed_end, listed_fail, Chosen, chosen_wrong, chosen_first, chosen_end, when_on, when_fail, other_end, other_fail}
use Rattle.cob_parse_proc.proofs.StmtAnswers.{fails_as, list_some, list_none, error_words, error_wrong, error_read, tail_first, tail_second, tail_read, branches_first, branches_second, branches_read, body_first, body_closed, body_open, ends_first, ends_second, ends_read, when_second, when_read, cases_none, cases_wrong, cases_read, stmt_second, stmt_read, stmt_takes, stmts_full, stmts_some}
use Rattle.cob_parse_proc.proofs.statement.+stmt.Goals as goal

-- ---- lists

pub list_in-returns-then-starts-clause-gives : goal.list_in-returns-then-starts-clause-gives
list_in-returns-then-starts-clause-gives t c = gives_as _ c.stmts_in.result _ _ (list_some (stmts_at c.args.room) c.args.takes_not (signs c.args.lexemes.now) (sym c.starts.ensures ∙ c.if-starts.true)) c.stmts_in.ensures.gives

pub list_in-returns-else-starts-clause-gives : goal.list_in-returns-else-starts-clause-gives
list_in-returns-else-starts-clause-gives t c = list_none (stmts_at c.args.room) c.args.takes_not (signs c.args.lexemes.now) _ (sym c.starts.ensures ∙ c.if-starts.false) c.left_at.ensures

-- ---- SIZE ERROR and NOT SIZE ERROR

pub tail_in-returns-in-Err-clause-gives : goal.tail_in-returns-in-Err-clause-gives
tail_in-returns-in-Err-clause-gives t c = tail_first (stmts_at c.args.room) c.args.end (signs c.args.lexemes.now) c.in-Err.halt (error_words (stmts_at c.args.room) _ (signs c.args.lexemes.now) c.in-Err.halt c.in-Err.ensures.gives)

pub tail_in-returns-in-Err-phrase_in-clause-gives : goal.tail_in-returns-in-Err-phrase_in-clause-gives
tail_in-returns-in-Err-phrase_in-clause-gives t c = tail_first (stmts_at c.args.room) c.args.end (signs c.args.lexemes.now) c.in-Err-phrase_in.halt (error_wrong (stmts_at c.args.room) _ (signs c.args.lexemes.now) (option_map (λ rest. signs rest.now) c.in-Ok.given) c.in-Err-phrase_in.halt c.in-Ok.ensures.gives c.in-Err-phrase_in.ensures.gives)

pub tail_in-returns-in-Err-behind_not_size-clause-gives : goal.tail_in-returns-in-Err-behind_not_size-clause-gives
tail_in-returns-in-Err-behind_not_size-clause-gives t c = tail_second (stmts_at c.args.room) c.args.end (signs c.args.lexemes.now) (option_map plain_list c.in-Ok-phrase_in.given.0, signs c.in-Ok-phrase_in.given.2.now) c.in-Err-behind_not_size.halt (error_read (stmts_at c.args.room) _ (signs c.args.lexemes.now) (option_map (λ rest. signs rest.now) c.in-Ok.given) _ c.in-Ok.ensures.gives c.in-Ok-phrase_in.ensures.gives)
    (error_words (stmts_at c.args.room) _ (signs c.in-Ok-phrase_in.given.2.now) c.in-Err-behind_not_size.halt c.in-Err-behind_not_size.ensures.gives)

pub tail_in-returns-in-Err-phrase_in-2-clause-gives : goal.tail_in-returns-in-Err-phrase_in-2-clause-gives
tail_in-returns-in-Err-phrase_in-2-clause-gives t c = tail_second (stmts_at c.args.room) c.args.end (signs c.args.lexemes.now) (option_map plain_list c.in-Ok-phrase_in.given.0, signs c.in-Ok-phrase_in.given.2.now) c.in-Err-phrase_in-2.halt (error_read (stmts_at c.args.room) _ (signs c.args.lexemes.now) (option_map (λ rest. signs rest.now) c.in-Ok.given) _ c.in-Ok.ensures.gives c.in-Ok-phrase_in.ensures.gives)
    (error_wrong (stmts_at c.args.room) _ (signs c.in-Ok-phrase_in.given.2.now) (option_map (λ rest. signs rest.now) c.in-Ok-behind_not_size.given) c.in-Err-phrase_in-2.halt c.in-Ok-behind_not_size.ensures.gives c.in-Err-phrase_in-2.ensures.gives)

pub tail_in-returns-clause-gives : goal.tail_in-returns-clause-gives
tail_in-returns-clause-gives t c = tail_read (stmts_at c.args.room) c.args.end (signs c.args.lexemes.now) (option_map plain_list c.in-Ok-phrase_in.given.0, signs c.in-Ok-phrase_in.given.2.now) (option_map plain_list c.in-Ok-phrase_in-2.given.0, signs c.in-Ok-phrase_in-2.given.2.now) c.ended-is_ended.result.0 (signs c.ended-is_ended.result.1.now) (plain_tail c.tail.result)
    (error_read (stmts_at c.args.room) _ (signs c.args.lexemes.now) (option_map (λ rest. signs rest.now) c.in-Ok.given) _ c.in-Ok.ensures.gives c.in-Ok-phrase_in.ensures.gives)
    (error_read (stmts_at c.args.room) _ (signs c.in-Ok-phrase_in.given.2.now) (option_map (λ rest. signs rest.now) c.in-Ok-behind_not_size.given) _ c.in-Ok-behind_not_size.ensures.gives c.in-Ok-phrase_in-2.ensures.gives)
    c.ended-is_ended.ensures.end c.tail.ensures

pub tail_in-returns-clause-takes : goal.tail_in-returns-clause-takes
tail_in-returns-clause-takes t c = c.goes_on.ensures ∙ (ap (λ (b : Bool). not c.ended-is_ended.result.0 && b) c.in-Ok-phrase_in-2.ensures.takes ∙ sym (ap tail_may c.tail.ensures))

-- ---- IF

pub branches_in-returns-in-Err-clause-gives : goal.branches_in-returns-in-Err-clause-gives
branches_in-returns-in-Err-clause-gives t c = branches_first (stmts_at c.args.room) c.args.takes_not (signs c.args.lexemes.now) c.in-Err.halt c.in-Err.ensures.gives

pub branches_in-returns-in-Err-phrase_in-clause-gives : goal.branches_in-returns-in-Err-phrase_in-clause-gives
branches_in-returns-in-Err-phrase_in-clause-gives t c = branches_second (stmts_at c.args.room) c.args.takes_not (signs c.args.lexemes.now) (plain_list c.in-Ok.given.0, signs c.in-Ok.given.2.now) c.in-Ok.ensures.gives (option_map (λ rest. signs rest.now) c.behind-opened.result) c.behind-opened.ensures.cut c.in-Err-phrase_in.halt c.in-Err-phrase_in.ensures.gives

pub branches_in-returns-clause-gives : goal.branches_in-returns-clause-gives
branches_in-returns-clause-gives t c = branches_read (stmts_at c.args.room) c.args.takes_not (signs c.args.lexemes.now) (plain_list c.in-Ok.given.0, signs c.in-Ok.given.2.now) c.in-Ok.ensures.gives (option_map (λ rest. signs rest.now) c.behind-opened.result) c.behind-opened.ensures.cut (option_map plain_list c.in-Ok-phrase_in.given.0, signs c.in-Ok-phrase_in.given.2.now) c.ended-is_ended.result.0 (signs c.ended-is_ended.result.1.now) c.in-Ok-phrase_in.ensures.gives c.ended-is_ended.ensures.end

pub branches_in-returns-clause-takes : goal.branches_in-returns-clause-takes
branches_in-returns-clause-takes t c = c.goes_on.ensures ∙ ap (λ (b : Bool). not c.ended-is_ended.result.0 && b) (c.in-Ok-phrase_in.ensures.takes ∙ ap (phrase_may (plain_phrase c.in-Ok-phrase_in.given.0)) c.in-Ok.ensures.takes)

-- ---- an inline PERFORM

pub body_in-returns-in-Err-clause-gives : goal.body_in-returns-in-Err-clause-gives
body_in-returns-in-Err-clause-gives t c = body_first (stmts_at c.args.room) c.args.takes_not (signs c.args.lexemes.now) c.in-Err.halt c.in-Err.ensures.gives

pub body_in-returns-in-Some-clause-gives : goal.body_in-returns-in-Some-clause-gives
body_in-returns-in-Some-clause-gives t c = body_closed (stmts_at c.args.room) c.args.takes_not (signs c.args.lexemes.now) (plain_list c.in-Ok.given.0, signs c.in-Ok.given.2.now) c.in-Ok.ensures.gives (signs c.in-Some.rest.now) c.in-Some.ensures.cut

pub body_in-returns-in-None-clause-gives : goal.body_in-returns-in-None-clause-gives
body_in-returns-in-None-clause-gives t c = body_open (stmts_at c.args.room) c.args.takes_not (signs c.args.lexemes.now) (plain_list c.in-Ok.given.0, signs c.in-Ok.given.2.now) c.in-Ok.ensures.gives c.in-Ok.given.1 _ c.in-None.ensures.cut c.in-Ok.ensures.takes c.left_at.ensures

-- ---- READ

pub ends_in-returns-in-Err-clause-gives : goal.ends_in-returns-in-Err-clause-gives
ends_in-returns-in-Err-clause-gives t c = ends_first (stmts_at c.args.room) (signs c.args.lexemes.now) (option_map (λ rest. signs rest.now) c.behind-opened.result) c.behind-opened.ensures.cut c.in-Err.halt c.in-Err.ensures.gives

pub ends_in-returns-in-Err-phrase_in-clause-gives : goal.ends_in-returns-in-Err-phrase_in-clause-gives
ends_in-returns-in-Err-phrase_in-clause-gives t c = ends_second (stmts_at c.args.room) (signs c.args.lexemes.now) (option_map (λ rest. signs rest.now) c.behind-opened.result) c.behind-opened.ensures.cut (option_map plain_list c.in-Ok.given.0, signs c.in-Ok.given.2.now) c.in-Ok.ensures.gives (option_map (λ rest. signs rest.now) c.both_behind-opened.result) c.both_behind-opened.ensures.cut c.in-Err-phrase_in.halt c.in-Err-phrase_in.ensures.gives

pub ends_in-returns-clause-gives : goal.ends_in-returns-clause-gives
ends_in-returns-clause-gives t c = ends_read (stmts_at c.args.room) (signs c.args.lexemes.now) (option_map (λ rest. signs rest.now) c.behind-opened.result) c.behind-opened.ensures.cut (option_map plain_list c.in-Ok.given.0, signs c.in-Ok.given.2.now) c.in-Ok.ensures.gives (option_map (λ rest. signs rest.now) c.both_behind-opened.result) c.both_behind-opened.ensures.cut (option_map plain_list c.in-Ok-phrase_in.given.0, signs c.in-Ok-phrase_in.given.2.now) c.ended-is_ended.result.0 (signs c.ended-is_ended.result.1.now) c.in-Ok-phrase_in.ensures.gives c.ended-is_ended.ensures.end

pub ends_in-returns-clause-takes : goal.ends_in-returns-clause-takes
ends_in-returns-clause-takes t c = c.goes_on.ensures ∙ ap (λ (b : Bool). not c.ended-is_ended.result.0 && b) c.in-Ok-phrase_in.ensures.takes

-- ---- WHEN

pub when_in-returns-in-Err-clause-gives : goal.when_in-returns-in-Err-clause-gives
when_in-returns-in-Err-clause-gives t c = when_wrong (stmts_at c.args.room) c.args.room (signs c.args.lexemes.now) c.in-Err.halt c.in-Err.ensures.gives

pub when_in-returns-in-Err-list_in-clause-gives : goal.when_in-returns-in-Err-list_in-clause-gives
when_in-returns-in-Err-list_in-clause-gives t c = when_second (stmts_at c.args.room) c.args.room (signs c.args.lexemes.now) (signs c.in-Ok.given.2.now) (map plain_sel c.in-Ok.given.0.items) c.in-Ok.given.1 c.in-Ok.ensures.gives c.in-Ok.ensures.takes c.in-Err-list_in.halt c.in-Err-list_in.ensures.gives

pub when_in-returns-clause-gives : goal.when_in-returns-clause-gives
when_in-returns-clause-gives t c = when_read (stmts_at c.args.room) c.args.room (signs c.args.lexemes.now) (signs c.in-Ok.given.2.now) (map plain_sel c.in-Ok.given.0.items) c.in-Ok.given.1 c.in-Ok.ensures.gives c.in-Ok.ensures.takes (plain_list c.in-Ok-list_in.given.0) (signs c.in-Ok-list_in.given.2.now) (plain_when c.when.result) c.in-Ok-list_in.ensures.gives c.when.ensures

pub when_in-returns-clause-takes : goal.when_in-returns-clause-takes
when_in-returns-clause-takes t c = c.in-Ok-list_in.ensures.takes ∙ sym (ap (λ (w : When). may (takes_when w)) c.when.ensures)

-- ---- the WHENs

pub whens_in-returns-in-Err-clause-gives : goal.whens_in-returns-in-Err-clause-gives
whens_in-returns-in-Err-clause-gives t c = chosen_wrong (stmts_at c.args.room) c.args.room (signs c.args.lexemes.now) c.in-Err.halt c.in-Err.ensures.gives

pub whens_in-whens-init : goal.whens_in-whens-init
whens_in-whens-init t c =
    let one : map plain_when c.push.new.self.items ≡ plain_when c.in-Ok.given.0 ∷ [] = rw (c.in_ok-push.ensures.items, c.in_ok-whens.ensures) refl in
    record {
      chosen = subst (λ (ws : List When). Chosen (stmts_at c.args.room) c.args.room ws (signs c.in-Ok.given.2.now) (signs c.args.lexemes.now)) (sym one) (chosen_first (stmts_at c.args.room) c.args.room (signs c.args.lexemes.now) (signs c.in-Ok.given.2.now) (plain_when c.in-Ok.given.0) c.in-Ok.ensures.gives);
      takes = c.in-Ok.ensures.takes ∙ sym (ap (λ (ws : List When). may (takes_whens (whens_of ws))) one ∙ whens_may [] (plain_when c.in-Ok.given.0));
      shorter = omega (arith, c.in-Ok.ensures.rest);
    }

pub whens_in-returns-in-Err-stmts_in-clause-gives : goal.whens_in-returns-in-Err-stmts_in-clause-gives
whens_in-returns-in-Err-stmts_in-clause-gives t c = other_fail (stmts_at c.args.room) c.args.room (map plain_when c.whens.whens.items) (signs c.whens.left.now) (signs c.args.lexemes.now) c.whens.invariant.chosen (sym c.when_begins.ensures ∙ c.whens-test.true) (signs c.in-Some.rest.now) (sym c.in-Some.ensures.cut) c.in-Err-stmts_in.halt c.in-Err-stmts_in.ensures.gives

pub whens_in-returns-in-Some-clause-gives : goal.whens_in-returns-in-Some-clause-gives
whens_in-returns-in-Some-clause-gives t c = other_end (stmts_at c.args.room) c.args.room (map plain_when c.whens.whens.items) (signs c.whens.left.now) (signs c.args.lexemes.now) c.whens.invariant.chosen (sym c.when_begins.ensures ∙ c.whens-test.true) (signs c.in-Some.rest.now) (sym c.in-Some.ensures.cut) (plain_list c.in-Ok-stmts_in.given.0) (signs c.in-Ok-stmts_in.given.2.now) c.in-Ok-stmts_in.ensures.gives (simp length-map (omega (arith, c.in-Ok-stmts_in.ensures.rest, c.in-Some.ensures.rest)))

pub whens_in-returns-in-Err-when_in-clause-gives : goal.whens_in-returns-in-Err-when_in-clause-gives
whens_in-returns-in-Err-when_in-clause-gives t c = when_fail (stmts_at c.args.room) c.args.room (map plain_when c.whens.whens.items) (signs c.whens.left.now) (signs c.args.lexemes.now) c.whens.invariant.chosen (sym c.when_begins.ensures ∙ c.whens-test.true) (ap is_some (sym c.in_default.ensures.cut)) c.in-Err-when_in.halt c.in-Err-when_in.ensures.gives

pub whens_in-whens-preserved : goal.whens_in-whens-preserved
whens_in-whens-preserved t c =
    let pushed : map plain_when c.push-in-whens.new.self.items ≡ map plain_when c.whens.whens.items ++ plain_when c.in-Ok-when_in.given.0 ∷ [] = rw c.in_ok-push-2.ensures.items (map_push plain_when c.whens.whens.items c.in-Ok-when_in.given.0) in
    record {
      chosen = subst (λ (ws : List When). Chosen (stmts_at c.args.room) c.args.room ws (signs c.in-Ok-when_in.given.2.now) (signs c.args.lexemes.now)) (sym pushed)
          (when_on (stmts_at c.args.room) c.args.room (map plain_when c.whens.whens.items) (signs c.whens.left.now) (signs c.args.lexemes.now) c.whens.invariant.chosen (sym c.when_begins.ensures ∙ c.whens-test.true) (ap is_some (sym c.in_default.ensures.cut)) (plain_when c.in-Ok-when_in.given.0) (signs c.in-Ok-when_in.given.2.now) c.in-Ok-when_in.ensures.gives (simp length-map (omega (arith, c.in-Ok-when_in.ensures.rest))));
      takes = c.in-Ok-when_in.ensures.takes ∙ sym (ap (λ (ws : List When). may (takes_whens (whens_of ws))) pushed ∙ whens_may (map plain_when c.whens.whens.items) (plain_when c.in-Ok-when_in.given.0));
      shorter = omega (arith, c.in-Ok-when_in.ensures.rest, c.whens.invariant.shorter);
    }

pub whens_in-returns-clause-gives : goal.whens_in-returns-clause-gives
whens_in-returns-clause-gives t c = chosen_end (stmts_at c.args.room) c.args.room (map plain_when c.whens.whens.items) (signs c.whens.left.now) (signs c.args.lexemes.now) c.whens.invariant.chosen (sym c.when_begins.ensures ∙ c.whens-test.false)

-- ---- EVALUATE

pub cases_in-returns-then-not-when_begins-clause-gives : goal.cases_in-returns-then-not-when_begins-clause-gives
cases_in-returns-then-not-when_begins-clause-gives t c = cases_none (stmts_at c.args.room) c.args.room (signs c.args.lexemes.now) _ (sym c.when_begins.ensures ∙ c.if-not-when_begins.true) (signs_length c.args.lexemes.now)

pub cases_in-returns-in-Err-clause-gives : goal.cases_in-returns-in-Err-clause-gives
cases_in-returns-in-Err-clause-gives t c = cases_wrong (stmts_at c.args.room) c.args.room (signs c.args.lexemes.now) c.in-Err.halt (sym c.when_begins.ensures ∙ c.if-not-when_begins.false) c.in-Err.ensures.gives

pub cases_in-returns-clause-gives : goal.cases_in-returns-clause-gives
cases_in-returns-clause-gives t c = cases_read (stmts_at c.args.room) c.args.room (signs c.args.lexemes.now) ((whens_of (map plain_when c.in-Ok.given.0.items), plain_phrase c.in-Ok.given.1), signs c.in-Ok.given.3.now) c.ended-is_ended.result.0 (signs c.ended-is_ended.result.1.now) (sym c.when_begins.ensures ∙ c.if-not-when_begins.false) c.in-Ok.ensures.gives c.ended-is_ended.ensures.end

pub cases_in-returns-clause-takes : goal.cases_in-returns-clause-takes
cases_in-returns-clause-takes t c = c.goes_on.ensures ∙ ap (λ (b : Bool). not c.ended-is_ended.result.0 && b) c.in-Ok.ensures.takes

-- ---- behind a head

pub verb_in-returns-in-Arithmetic-clause-gives : goal.verb_in-returns-in-Arithmetic-clause-gives
verb_in-returns-in-Arithmetic-clause-gives t c = gives_as _ c.with_phrases.result _ _ (ap (λ (h : Head). verb_at (stmts_at c.args.room) c.args.room c.args.takes_not (plain_head h) (signs c.args.lexemes.now)) c.in-Arithmetic.is)
    (c.with_phrases.ensures.gives (tail_at (stmts_at c.args.room) (end_word (plain_arithmetic c.in-Arithmetic.arithmetic))) (signs c.args.lexemes.now) (gives_as _ c.tail_in.result _ _ (ap (λ (k : Keyword). tail_at (stmts_at c.args.room) k (signs c.args.lexemes.now)) (sym c.end_word-end.ensures)) c.tail_in.ensures.gives))

pub verb_in-returns-in-If-clause-gives : goal.verb_in-returns-in-If-clause-gives
verb_in-returns-in-If-clause-gives t c = gives_as _ c.with_branches.result _ _ (ap (λ (h : Head). verb_at (stmts_at c.args.room) c.args.room c.args.takes_not (plain_head h) (signs c.args.lexemes.now)) c.in-If.is)
    (c.with_branches.ensures.gives (branches_at (stmts_at c.args.room) c.args.takes_not) (signs c.args.lexemes.now) c.branches_in.ensures.gives)

pub verb_in-returns-in-Evaluate-clause-gives : goal.verb_in-returns-in-Evaluate-clause-gives
verb_in-returns-in-Evaluate-clause-gives t c = gives_as _ c.with_cases.result _ _ (ap (λ (h : Head). verb_at (stmts_at c.args.room) c.args.room c.args.takes_not (plain_head h) (signs c.args.lexemes.now)) c.in-Evaluate.is)
    (c.with_cases.ensures.gives (cases_at (stmts_at c.args.room) c.args.room) (signs c.args.lexemes.now) c.cases_in.ensures.gives)

pub verb_in-returns-in-Perform-clause-gives : goal.verb_in-returns-in-Perform-clause-gives
verb_in-returns-in-Perform-clause-gives t c = gives_as _ c.with_body.result _ _ (ap (λ (h : Head). verb_at (stmts_at c.args.room) c.args.room c.args.takes_not (plain_head h) (signs c.args.lexemes.now)) c.in-Perform.is)
    (c.with_body.ensures.gives (body_at (stmts_at c.args.room) c.args.takes_not) (signs c.args.lexemes.now) c.body_in.ensures.gives)

pub verb_in-returns-in-Read-clause-gives : goal.verb_in-returns-in-Read-clause-gives
verb_in-returns-in-Read-clause-gives t c = gives_as _ c.with_ends.result _ _ (ap (λ (h : Head). verb_at (stmts_at c.args.room) c.args.room c.args.takes_not (plain_head h) (signs c.args.lexemes.now)) c.in-Read.is)
    (c.with_ends.ensures.gives (ends_at (stmts_at c.args.room)) (signs c.args.lexemes.now) c.ends_in.ensures.gives)

pub verb_in-returns-in-Arithmetic-clause-takes : goal.verb_in-returns-in-Arithmetic-clause-takes
verb_in-returns-in-Arithmetic-clause-takes t c = subst (λ (h : Head). IfOk c.with_phrases.result (λ x. x.1 ≡ verb_may c.args.takes_not (plain_head h) (plain_verb x.0))) (sym c.in-Arithmetic.is) (c.with_phrases.ensures.takes c.tail_in.ensures.takes)

pub verb_in-returns-in-Arithmetic-clause-rest : goal.verb_in-returns-in-Arithmetic-clause-rest
verb_in-returns-in-Arithmetic-clause-rest t c = c.with_phrases.ensures.rest (length c.args.lexemes.now) c.tail_in.ensures.rest

pub verb_in-returns-in-If-clause-takes : goal.verb_in-returns-in-If-clause-takes
verb_in-returns-in-If-clause-takes t c = subst (λ (h : Head). IfOk c.with_branches.result (λ x. x.1 ≡ verb_may c.args.takes_not (plain_head h) (plain_verb x.0))) (sym c.in-If.is) (c.with_branches.ensures.takes c.branches_in.ensures.takes)

pub verb_in-returns-in-If-clause-rest : goal.verb_in-returns-in-If-clause-rest
verb_in-returns-in-If-clause-rest t c = c.with_branches.ensures.rest (length c.args.lexemes.now) c.branches_in.ensures.rest

pub verb_in-returns-in-Evaluate-clause-takes : goal.verb_in-returns-in-Evaluate-clause-takes
verb_in-returns-in-Evaluate-clause-takes t c = subst (λ (h : Head). IfOk c.with_cases.result (λ x. x.1 ≡ verb_may c.args.takes_not (plain_head h) (plain_verb x.0))) (sym c.in-Evaluate.is) (c.with_cases.ensures.takes c.cases_in.ensures.takes)

pub verb_in-returns-in-Evaluate-clause-rest : goal.verb_in-returns-in-Evaluate-clause-rest
verb_in-returns-in-Evaluate-clause-rest t c = c.with_cases.ensures.rest (length c.args.lexemes.now) c.cases_in.ensures.rest

pub verb_in-returns-in-Perform-clause-takes : goal.verb_in-returns-in-Perform-clause-takes
verb_in-returns-in-Perform-clause-takes t c = subst (λ (h : Head). IfOk c.with_body.result (λ x. x.1 ≡ verb_may c.args.takes_not (plain_head h) (plain_verb x.0))) (sym c.in-Perform.is) (c.with_body.ensures.takes c.body_in.ensures.takes)

pub verb_in-returns-in-Perform-clause-rest : goal.verb_in-returns-in-Perform-clause-rest
verb_in-returns-in-Perform-clause-rest t c = c.with_body.ensures.rest (length c.args.lexemes.now) c.body_in.ensures.rest

pub verb_in-returns-in-Read-clause-takes : goal.verb_in-returns-in-Read-clause-takes
verb_in-returns-in-Read-clause-takes t c = subst (λ (h : Head). IfOk c.with_ends.result (λ x. x.1 ≡ verb_may c.args.takes_not (plain_head h) (plain_verb x.0))) (sym c.in-Read.is) (c.with_ends.ensures.takes c.ends_in.ensures.takes)

pub verb_in-returns-in-Read-clause-rest : goal.verb_in-returns-in-Read-clause-rest
verb_in-returns-in-Read-clause-rest t c = c.with_ends.ensures.rest (length c.args.lexemes.now) c.ends_in.ensures.rest

-- ---- one statement

pub stmt_in-returns-in-Err-clause-gives : goal.stmt_in-returns-in-Err-clause-gives
stmt_in-returns-in-Err-clause-gives t c = stmt_wrong (stmts_at c.args.room) c.args.room (signs c.args.lexemes.now) c.in-Err.halt c.in-Err.ensures.gives

pub stmt_in-returns-in-Err-verb_in-clause-gives : goal.stmt_in-returns-in-Err-verb_in-clause-gives
stmt_in-returns-in-Err-verb_in-clause-gives t c = stmt_second (stmts_at c.args.room) c.args.room (signs c.args.lexemes.now) (signs c.in-Ok.given.3.now) c.in-Ok.given.0 (plain_head c.in-Ok.given.1) c.in-Ok.given.2 c.in-Ok.ensures.gives c.in-Ok.ensures.takes c.in-Err-verb_in.halt c.in-Err-verb_in.ensures.gives

pub stmt_in-returns-clause-gives : goal.stmt_in-returns-clause-gives
stmt_in-returns-clause-gives t c = stmt_read (stmts_at c.args.room) c.args.room (signs c.args.lexemes.now) (signs c.in-Ok.given.3.now) c.in-Ok.given.0 (plain_head c.in-Ok.given.1) c.in-Ok.given.2 c.in-Ok.ensures.gives c.in-Ok.ensures.takes (plain_verb c.in-Ok-verb_in.given.0) (signs c.in-Ok-verb_in.given.2.now) (plain_stmt c.of.result) c.in-Ok-verb_in.ensures.gives c.of.ensures

pub stmt_in-returns-clause-takes : goal.stmt_in-returns-clause-takes
stmt_in-returns-clause-takes t c =
    c.in-Ok-verb_in.ensures.takes
    ∙ (stmt_takes (stmts_at c.args.room) c.args.room (signs c.args.lexemes.now) (signs c.in-Ok.given.3.now) c.in-Ok.given.0 (plain_head c.in-Ok.given.1) c.in-Ok.given.2 c.in-Ok.ensures.gives c.in-Ok.ensures.takes (plain_verb c.in-Ok-verb_in.given.0) (signs c.in-Ok-verb_in.given.2.now) c.in-Ok-verb_in.ensures.gives
    ∙ sym (ap (λ (s : Stmt). may (takes_stmt s)) c.of.ensures))

-- ---- the statements

pub stmts_in-returns-then-room-eq0-clause-gives : goal.stmts_in-returns-then-room-eq0-clause-gives
stmts_in-returns-then-room-eq0-clause-gives t c = stmts_full c.args.room (signs c.args.lexemes.now) c.full.result c.if-room-eq0.true c.full.ensures

pub stmts_in-returns-in-Err-clause-gives : goal.stmts_in-returns-in-Err-clause-gives
stmts_in-returns-in-Err-clause-gives t c = fails_as c.in-Err.halt _ _ (stmts_some c.args.room (signs c.args.lexemes.now) c.if-room-eq0.false) (listed_wrong (stmt_with (stmts_at (c.args.room - 1)) (c.args.room - 1)) (signs c.args.lexemes.now) c.in-Err.halt c.in-Err.ensures.gives)

pub stmts_in-stmts-init : goal.stmts_in-stmts-init
stmts_in-stmts-init t c =
    let one : map plain_stmt c.push.new.self.items ≡ plain_stmt c.in-Ok.given.0 ∷ [] = rw (c.in_ok-push.ensures.items, c.in_ok-stmts.ensures) refl in
    record {
      listed = subst (λ (ss : List Stmt). Listed (stmt_with (stmts_at (c.args.room - 1)) (c.args.room - 1)) ss (signs c.in-Ok.given.2.now) (signs c.args.lexemes.now)) (sym one) (listed_first (stmt_with (stmts_at (c.args.room - 1)) (c.args.room - 1)) (signs c.args.lexemes.now) (signs c.in-Ok.given.2.now) (plain_stmt c.in-Ok.given.0) c.in-Ok.ensures.gives);
      takes = c.in-Ok.ensures.takes ∙ sym (ap (λ (ss : List Stmt). may (takes_stmts (stmts_of ss))) one ∙ stmts_may [] (plain_stmt c.in-Ok.given.0));
      shorter = c.in-Ok.ensures.rest;
    }

pub stmts_in-returns-in-Err-stmt_in-clause-gives : goal.stmts_in-returns-in-Err-stmt_in-clause-gives
stmts_in-returns-in-Err-stmt_in-clause-gives t c = fails_as c.in-Err-stmt_in.halt _ _ (stmts_some c.args.room (signs c.args.lexemes.now) c.if-room-eq0.false) (listed_fail (stmt_with (stmts_at (c.args.room - 1)) (c.args.room - 1)) (map plain_stmt c.stmts.stmts.items) (signs c.stmts.left.now) (signs c.args.lexemes.now) c.in-Err-stmt_in.halt c.stmts.invariant.listed (sym c.starts.ensures ∙ c.stmts-test.true) c.in-Err-stmt_in.ensures.gives)

pub stmts_in-stmts-preserved : goal.stmts_in-stmts-preserved
stmts_in-stmts-preserved t c =
    let pushed : map plain_stmt c.push-in-stmts.new.self.items ≡ map plain_stmt c.stmts.stmts.items ++ plain_stmt c.in-Ok-stmt_in.given.0 ∷ [] = rw c.in_ok-push-2.ensures.items (map_push plain_stmt c.stmts.stmts.items c.in-Ok-stmt_in.given.0) in
    record {
      listed = subst (λ (ss : List Stmt). Listed (stmt_with (stmts_at (c.args.room - 1)) (c.args.room - 1)) ss (signs c.in-Ok-stmt_in.given.2.now) (signs c.args.lexemes.now)) (sym pushed)
          (listed_on (stmt_with (stmts_at (c.args.room - 1)) (c.args.room - 1)) (map plain_stmt c.stmts.stmts.items) (signs c.stmts.left.now) (signs c.args.lexemes.now) (signs c.in-Ok-stmt_in.given.2.now) (plain_stmt c.in-Ok-stmt_in.given.0) c.stmts.invariant.listed (sym c.starts.ensures ∙ c.stmts-test.true) c.in-Ok-stmt_in.ensures.gives (simp length-map (omega (arith, c.in-Ok-stmt_in.ensures.rest))));
      takes = c.in-Ok-stmt_in.ensures.takes ∙ sym (ap (λ (ss : List Stmt). may (takes_stmts (stmts_of ss))) pushed ∙ stmts_may (map plain_stmt c.stmts.stmts.items) (plain_stmt c.in-Ok-stmt_in.given.0));
      shorter = omega (arith, c.in-Ok-stmt_in.ensures.rest, c.stmts.invariant.shorter);
    }

pub stmts_in-returns-clause-gives : goal.stmts_in-returns-clause-gives
stmts_in-returns-clause-gives t c = (stmts_some c.args.room (signs c.args.lexemes.now) c.if-room-eq0.false) ∙ listed_end (stmt_with (stmts_at (c.args.room - 1)) (c.args.room - 1)) (map plain_stmt c.stmts.stmts.items) (signs c.stmts.left.now) (signs c.args.lexemes.now) c.stmts.invariant.listed (sym c.starts.ensures ∙ c.stmts-test.false)
