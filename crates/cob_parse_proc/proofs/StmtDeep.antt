-- Where there is too little room for statements: each whose text goes on with the token opens one too many there.
use Rattle.std.proofs.Common.{◌≡◌, ℕ, zero, suc, ◌+◌, ◌<◌, ◌≤◌, false, List, [], ◌∷◌, Option, None, is_some, Ok, refl, sym, ap, ◌∙◌, arith}
use Rattle.cob_tree.specs.declared.keyword.Keyword.{Keyword}
use Rattle.cob_tree.specs.declared.keyword.Keyword.TheVariants as word
use Rattle.cob_tree.specs.Symbols.{Sign}
use Rattle.cob_tree.specs.Items.{Item, key}
use Rattle.cob_tree.specs.Cues.{Cue, is, Size, NotSize, AtEnd, NotAtEnd, Else, EndIf, EndEvaluate, EndRead}
use Rattle.cob_tree.specs.Cues as cue
use Rattle.cob_tree.specs.Stmt.{Stmts}
use Rattle.reading.specs.Readers.{Deep, Reader, branch, seen, behind, optional, plus, stands}
use Rattle.reading.specs.Printing.{Below}
use Rattle.reading.specs.Law.{Syntax, Law, Deepens}
use Rattle.reading.proofs.Results.{ok_fails}
use Rattle.reading.proofs.Texts.{Always}
use Rattle.reading.proofs.Lead.{lead_syntax, nothing_syntax, nothing_law}
use Rattle.reading.proofs.Many.{many_from_tail, many_from_deepens}
use Rattle.reading.proofs.Optional.{optional_syntax}
use Rattle.reading.proofs.Opt.{Opening, opener_of, when}
use Rattle.reading.proofs.Grows.{Grows}
use Rattle.reading.proofs.Deeper.{deepens_never, deepens_nothing, deepens_lead, deepens_seen, deepens_follow, deepens_choose, deepens_optional, deepens_need, deepens_full, deepens_tail, deepens_must, deepens_branch, deepens_plus}
use Rattle.cob_parse_verb.specs.Procedure.{procedure}
use Rattle.cob_parse_verb.specs.Heads.{Head, done, arithmetic, if_head, evaluate_head, perform_head, read_head, takes_behind, end_word, end_cue}
use Rattle.cob_parse_verb.specs.Syntaxes.{head_syntax, choices_syntax}
use Rattle.cob_parse_verb.specs.Reading.{head_at}
use Rattle.cob_parse_verb.specs.Turning.{choices_at}
use Rattle.cob_parse_verb.proofs.HeadLaws.{law_of_heads}
use Rattle.cob_parse_verb.proofs.SelLaws.{law_of_choices}
use Rattle.cob_parse_verb.proofs.HeadLevels.{heads_deepen, choices_deepen}
use Rattle.cob_parse_proc.specs.Reading.{here, one_word, may_go, last, when_with, other_with, case_with, is_other, more_cases, whens_with, Inside, no_inside, inside_with, inside_takes, error_with, first_with, second_with, ended_with, end_with, begun_with, one_phrase, two_phrases, parts_with, stmt_with, make_stmts, stmts_at}
use Rattle.cob_parse_proc.specs.Bare.{when_takes}
use Rattle.cob_parse_proc.proofs.Mixed.{mixed_joint}
use Rattle.cob_parse_proc.proofs.Words.{one_key, size_opening, not_size_opening, end_opening, not_end_opening, else_opening, ends_opening, end_if_opening, end_evaluate_opening, end_read_opening}
use Rattle.cob_parse_proc.proofs.Syntaxes.{stmts_syntax, stmt_syntax, when_syntax, led_syntax, stmts_begin, Known}
use Rattle.cob_parse_proc.proofs.WhenLaws.{start_told, when_view, choices_end, led_view, led_law}
use Rattle.cob_parse_proc.proofs.CaseLaws.{other_syntax, case_syntax, whens_syntax, cases_starts, whens_only, when_with_law, case_tells, cases_alike, cases_laws}
use Rattle.cob_parse_proc.proofs.Levels.{inside_syntax, inside_style, never_given, begun_syntax, none_syntax, error_words, first_syntax, first_style, one_syntax, second_syntax, second_style, two_syntax, closed_view, ended_syntax, end_syntax, end_style, parts_syntax, if_view, perform_view, evaluate_view, inside_part, begun_law, error_law, first_part, one_law, second_part, two_law, end_part}
use Rattle.cob_parse_proc.proofs.StmtView.{stmt_view}
use Rattle.cob_parse_proc.proofs.StmtLaws.{no_room, stmts_view, starts_one, alike, stmt_law, law_of_statements, statements_grow}

-- only where a condition holds
deepens_when : {B : Type 0} {S : Reader Sign B} {b : Syntax Item Cue B} {top wide : ℕ} → Deepens procedure S b top wide → (Holds : Type 0) → Deepens procedure S (when Holds b) top wide
deepens_when D Holds = record { there = λ q r z text rest t y e spells good below next same. D.there q r z text rest t y e spells good.0 below next same }

module _ (K : Known) (d top wide room room' : ℕ) (le : top ≤ wide) (low : d < top) (low' : d < wide) (inner inner' : Reader Sign Stmts) (LI : Law procedure inner (stmts_syntax d) top) (WI : Law procedure inner' (stmts_syntax d) wide)
    (GI : Grows procedure (stmts_syntax d) top) (GW : Grows procedure (stmts_syntax d) wide) (DI : Deepens procedure inner (stmts_syntax d) top wide)
    (LH : Law procedure (head_at room) (head_syntax d) top) (WH : Law procedure (head_at room') (head_syntax d) wide) (DH : Deepens procedure (head_at room) (head_syntax d) top wide)
    (LC : Law procedure (choices_at room) (choices_syntax d) top) (WC : Law procedure (choices_at room') (choices_syntax d) wide) (DC : Deepens procedure (choices_at room) (choices_syntax d) top wide) where
  -- ---- EVALUATE

  when_deepens : Deepens procedure (when_with inner room) (when_syntax d) top wide
  when_deepens = deepens_seen (when_view d) (deepens_must le LC WC DC LI (choices_end K d top low) (stmts_begin d) start_told DI)

  led_deepens : (ks : List Keyword) (k : Keyword) {r : Reader Sign Stmts} → Law procedure r (led_syntax d ks) top → Deepens procedure r (led_syntax d ks) top wide → Deepens procedure (seen last (branch (one_word k) (λ x. r))) (led_syntax d (k ∷ ks)) top wide
  led_deepens ks k {r} L D = deepens_seen (led_view d ks k) (deepens_branch (one_key d k) le (λ x a. low) tt tt (λ x. r) (λ x. led_syntax d ks) (λ x a. L) (λ x a. D))

  other_deepens : Deepens procedure (other_with inner) (other_syntax d) top wide
  other_deepens = led_deepens (word.Other ∷ []) word.When (led_law d top low inner [] word.Other LI) (led_deepens [] word.Other LI DI)

  case_deepens : Deepens procedure (case_with inner room) (case_syntax d) top wide
  case_deepens = deepens_choose (case_tells K d top room low inner LI LC) other_deepens when_deepens

  whens_deepens : Deepens procedure (whens_with inner room) (whens_syntax d) top wide
  whens_deepens = deepens_tail le (when_with_law K d top room low inner LI LC) (when_with_law K d wide room' low' inner' WI WC) when_deepens cue.Whens (λ w p good e. ap (when_takes w) (whens_only false p e))
      (λ w. many_from_tail more_cases is_other cue.Whens (cases_alike K d top room low inner LI LC) (λ ended. cases_starts d (case_with inner room) ended) (cases_laws K d top room low inner LI LC) false)
      (λ w good. many_from_deepens more_cases is_other cue.Whens (cases_alike K d top room low inner LI LC) (λ ended. cases_starts d (case_with inner room) ended) (cases_laws K d top room low inner LI LC) wide le (cases_laws K d wide room' low' inner' WI WC) (λ ended ts e. deepens_when case_deepens (ended ≡ false)) false)

  -- ---- inside

  inside_deepens : (h : Head) → Deepens procedure (inside_with inner room h) (inside_syntax d h) top wide
  inside_deepens (done v) = deepens_never (λ ts n e. ok_fails (no_inside, ts) (Deep n) e)
  inside_deepens (arithmetic a) = deepens_never (λ ts n e. ok_fails (no_inside, ts) (Deep n) e)
  inside_deepens (if_head c) = deepens_need (here cue.Starts) (may_go (takes_behind (if_head c))) (deepens_seen (if_view d c) DI)
  inside_deepens (evaluate_head s) = deepens_need (here cue.Whens) (may_go (takes_behind (evaluate_head s))) (deepens_seen (evaluate_view d s) whens_deepens)
  inside_deepens (perform_head turns) = deepens_need (here cue.Starts) (may_go (takes_behind (perform_head turns))) (deepens_seen (perform_view d turns) DI)
  inside_deepens (read_head file into) = deepens_never (λ ts n e. ok_fails (no_inside, ts) (Deep n) e)

  begun_deepens : Deepens procedure (begun_with inner room) (begun_syntax d) top wide
  begun_deepens = deepens_follow le LH WH (mixed_joint procedure top (head_syntax d) (λ x. inside_with inner room x.1) (λ x. inside_syntax d x.1) never_given (λ x. inside_style x.1) (inside_part K d top room low inner LI GI LH LC)) DH (λ x good. inside_deepens x.1)

  -- ---- phrases

  none_deepens : {A : Type 0} (r : Reader Sign (Option A)) → ((ts : List Sign) → r ts ≡ Ok (None, ts)) → Deepens procedure r (none_syntax {A = A}) top wide
  none_deepens r reads = deepens_never (λ ts n e. ok_fails (None, ts) (Deep n) (sym (reads ts) ∙ e))

  phrase_deepens : {B : Type 0} {R : Reader Sign B} {s : Syntax Item Cue B} {cut : List Sign → Option (List Sign)} (c : Cue) (its : List Item) → Opening procedure (is c) its cut → Below procedure top its → Law procedure R s top → Deepens procedure R s top wide → Deepens procedure (optional cut R) (optional_syntax (is c) its s) top wide
  phrase_deepens {B} {R} {s} c its O lows L D = deepens_optional (opener_of O R s top lows) (λ ts rest e. L) D

  error_deepens : Deepens procedure (error_with inner) (led_syntax d error_words) top wide
  error_deepens = led_deepens [] word.Error LI DI

  LE : Law procedure (error_with inner) (led_syntax d error_words) top
  LE = error_law K d top room low inner LI GI LH LC

  first_deepens : (h : Head) → Deepens procedure (first_with inner h) (first_syntax d h) top wide
  first_deepens (done v) = none_deepens (first_with inner (done v)) (λ ts. refl)
  first_deepens (arithmetic a) = phrase_deepens Size (key d word.Size ∷ []) (size_opening d) (low, tt) LE error_deepens
  first_deepens (if_head c) = phrase_deepens Else (key d word.Else ∷ []) (else_opening d) (low, tt) LI DI
  first_deepens (evaluate_head s) = none_deepens (first_with inner (evaluate_head s)) (λ ts. refl)
  first_deepens (perform_head turns) = none_deepens (first_with inner (perform_head turns)) (λ ts. refl)
  first_deepens (read_head file into) = phrase_deepens AtEnd (key d word.End ∷ []) (end_opening d) (low, tt) LI DI

  one_deepens : Deepens procedure (one_phrase inner room) (one_syntax d) top wide
  one_deepens = deepens_follow le (begun_law K d top room low inner LI GI LH LC) (begun_law K d wide room' low' inner' WI GW WH WC) (mixed_joint procedure top (begun_syntax d) (λ x. first_with inner x.0.1) (λ x. first_syntax d x.0.1) is_some (λ x. first_style x.0.1) (first_part K d top room low inner LI GI LH LC)) begun_deepens (λ x good. first_deepens x.0.1)

  second_deepens : (h : Head) → Deepens procedure (second_with inner h) (second_syntax d h) top wide
  second_deepens (done v) = none_deepens (second_with inner (done v)) (λ ts. refl)
  second_deepens (arithmetic a) = phrase_deepens NotSize (key d word.Not ∷ key d word.Size ∷ []) (not_size_opening d) (low, (low, tt)) LE error_deepens
  second_deepens (if_head c) = none_deepens (second_with inner (if_head c)) (λ ts. refl)
  second_deepens (evaluate_head s) = none_deepens (second_with inner (evaluate_head s)) (λ ts. refl)
  second_deepens (perform_head turns) = none_deepens (second_with inner (perform_head turns)) (λ ts. refl)
  second_deepens (read_head file into) = phrase_deepens NotAtEnd (key d word.Not ∷ key d word.End ∷ []) (not_end_opening d) (low, (low, tt)) LI DI

  two_deepens : Deepens procedure (two_phrases inner room) (two_syntax d) top wide
  two_deepens = deepens_follow le (one_law K d top room low inner LI GI LH LC) (one_law K d wide room' low' inner' WI GW WH WC) (mixed_joint procedure top (one_syntax d) (λ x. second_with inner x.0.0.1) (λ x. second_syntax d x.0.0.1) is_some (λ x. second_style x.0.0.1) (second_part K d top room low inner LI GI LH LC)) one_deepens (λ x good. second_deepens x.0.0.1)

  -- ---- the last word

  ended_deepens : (c : Cue) (k : Keyword) → Opening procedure (is c) (key d k ∷ []) (behind (one_word k)) → Deepens procedure (ended_with k) (ended_syntax d c k) top wide
  ended_deepens c k O = phrase_deepens c (key d k ∷ []) O (low, tt) (nothing_law procedure top) (deepens_nothing procedure nothing_syntax top wide)

  end_deepens : (h : Head) (i : Inside) → Deepens procedure (end_with h i) (end_syntax d h) top wide
  end_deepens (done v) i = none_deepens (end_with (done v) i) (λ ts. refl)
  end_deepens (arithmetic a) i = ended_deepens (end_cue a) (end_word a) (ends_opening a d)
  end_deepens (if_head c) i = ended_deepens EndIf word.EndIf (end_if_opening d)
  end_deepens (evaluate_head s) i = ended_deepens EndEvaluate word.EndEvaluate (end_evaluate_opening d)
  end_deepens (perform_head turns) i = deepens_need (stands (one_word word.EndPerform)) (may_go (inside_takes i)) (deepens_seen (closed_view d) (deepens_lead (one_word word.EndPerform) procedure (lead_syntax Always (λ (x : Unit {0}). key d word.EndPerform)) top wide))
  end_deepens (read_head file into) i = ended_deepens EndRead word.EndRead (end_read_opening d)

  pub parts_deepens : Deepens procedure (parts_with inner room) (parts_syntax d) top wide
  parts_deepens = deepens_follow le (two_law K d top room low inner LI GI LH LC) (two_law K d wide room' low' inner' WI GW WH WC) (mixed_joint procedure top (two_syntax d) (λ x. end_with x.0.0.0.1 x.0.0.1) (λ x. end_syntax d x.0.0.0.1) is_some (λ x. end_style x.0.0.0.1) (end_part K d top room low inner LI GI LH LC)) two_deepens (λ x good. end_deepens x.0.0.0.1 x.0.0.1)

-- ---- lists

module _ (K : Known) (room more d top wide : ℕ) (same : top ≡ suc (suc d + room)) (same' : wide ≡ suc (suc d + (room + more))) (DI : Deepens procedure (stmts_at room) (stmts_syntax (suc d)) top wide) where
  stmt_deepens : Deepens procedure (stmt_with (stmts_at room) room) (stmt_syntax d) top wide
  stmt_deepens = deepens_seen (stmt_view K d) (parts_deepens K (suc d) top wide room (room + more) (omega (arith, same, same')) (omega (arith, same)) (omega (arith, same')) (stmts_at room) (stmts_at (room + more))
      (law_of_statements K room (suc d) top same) (law_of_statements K (room + more) (suc d) wide same') (statements_grow K room (suc d) top same) (statements_grow K (room + more) (suc d) wide same') DI
      (law_of_heads room (suc d) top same) (law_of_heads (room + more) (suc d) wide same') (heads_deepen room more (suc d) top wide same same') (law_of_choices room (suc d) top same) (law_of_choices (room + more) (suc d) wide same') (choices_deepen room more (suc d) top wide same same'))

  list_deepens : Deepens procedure (seen make_stmts (plus (here cue.Starts) (stmt_with (stmts_at room) room))) (stmts_syntax d) top wide
  list_deepens = deepens_seen (stmts_view d) (deepens_plus {r' = stmt_with (stmts_at (room + more)) (room + more)} (omega (arith, same, same'))
      (stmt_law K room d top (omega (arith, same)) same (stmts_at room) (law_of_statements K room (suc d) top same) (statements_grow K room (suc d) top same))
      (stmt_law K (room + more) d wide (omega (arith, same')) same' (stmts_at (room + more)) (law_of_statements K (room + more) (suc d) wide same') (statements_grow K (room + more) (suc d) wide same'))
      stmt_deepens (is cue.Starts) cue.Starts (alike d) (starts_one d (stmt_with (stmts_at room) room)))

pub statements_deepen : Known → (room more d top wide : ℕ) → top ≡ suc (d + room) → wide ≡ suc (d + (room + more)) → Deepens procedure (stmts_at room) (stmts_syntax d) top wide
unfolding stmts_at
statements_deepen K zero more d top wide same same' = deepens_full (no_room d top (omega (arith, same)))
statements_deepen K (suc room) more d top wide same same' = list_deepens K room more d top wide (omega (arith, same)) (omega (arith, same')) (statements_deepen K room more (suc d) top wide (omega (arith, same)) (omega (arith, same')))
