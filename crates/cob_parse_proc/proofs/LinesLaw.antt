-- Two programs with the same symbols are equal but for their lines.
use Rattle.std.proofs.Common.{◌≡◌, ℕ, suc, Bool, true, false, ◌||◌, List, [], ◌∷◌, ◌++◌, Option, Some, None, refl, sym, ap, subst, ◌∙◌, map}
use Rattle.std.specs.List.{AllByRecursion}
use Rattle.std.specs.Option.{option_map}
use Rattle.cob_tree.specs.declared.keyword.Keyword.{Keyword}
use Rattle.cob_tree.specs.declared.keyword.Keyword.TheVariants as word
use Rattle.cob_tree.specs.declared.tree.EndProgram.{EndProgram}
use Rattle.cob_tree.specs.declared.token.Rel.TheVariants as rel
use Rattle.cob_tree.specs.Symbols.{Symbol, Key, Name, Sign}
use Rattle.cob_tree.specs.Items.{Item, IsLine, item_on, key, keys, name, stop, word_if, behind, each}
use Rattle.cob_tree.specs.Cues.{Cue, is, Starts, Size, NotSize, AtEnd, NotAtEnd, Else, EndAdd, EndSubtract, EndMultiply, EndDivide, EndCompute, EndIf, EndEvaluate, EndRead}
use Rattle.cob_tree.specs.Cues as cue
use Rattle.cob_tree.specs.Stmt.{Stmt, MkStmt, Verb, move, set, display, add_to, add_giving, subtract_from, subtract_giving, multiply_by, multiply_giving, divide_into, divide_giving, compute, if_, evaluate, perform_range, perform_inline, go, exit, continue, stop_run, open_, close, read, write, Stmts, no_stmts, more_stmts, Phrase, left_out, given, Tail, MkTail, Whens, no_whens, more_whens, When, MkWhen, Paragraph, Tree}
use Rattle.cob_tree.specs.PrintExpr.{print_ref, print_opnd, print_expr, print_cond, print_relation}
use Rattle.cob_tree.specs.PrintFront as print
use Rattle.cob_tree.specs.PrintFront.{print_if, print_front}
use Rattle.cob_tree.specs.PrintStmt.{print_opnds, print_recvs, print_refs, way_word, print_subject, print_choice, print_loop, print_name_only, first_word, size_words, not_size_words, print_stmts, print_stmt, print_verb, print_phrase, print_tail, print_whens, print_when, print_sentence, print_paragraph, print_end, print_tree}
use Rattle.cob_tree.specs.Takes.{takes_stmts, takes_stmt, takes_phrase, takes_tail, takes_whens, takes_when, takes_verb, takes_into, unless}
use Rattle.cob_tree.specs.Shaped.{ShapedStmts, ShapedStmt, ShapedPhrase, ShapedTail, ShapedEnd, ShapedWhens, ShapedWhen, ShapedVerb, ShapedParagraph}
use Rattle.reading.specs.Printing.{Matches}
use Rattle.cob_parse_expr.specs.LexemeClasses.{by_symbol}
use Rattle.cob_parse_data.specs.Lines.{without_lines}
use Rattle.cob_parse_data.proofs.LinesLaw.{front_blank, shaped}
use Rattle.cob_parse_verb.specs.Heads as heads
use Rattle.cob_parse_verb.specs.Heads.{Arithmetic, with_tail, end_word, print_arithmetic}
use Rattle.cob_parse_proc.specs.Parsing.{ShapedTree}
use Rattle.cob_parse_proc.specs.Lines.{stmts_without, stmt_without, phrase_without, tail_without, whens_without, when_without, verb_without, paragraph_without, end_without, tree_without}
use Rattle.cob_parse_proc.proofs.Plain.{blank, Plain, two, both, behind_plain, more, keys_plain, opened_plain, word_plain, ref_plain, opnd_plain, opnds_plain, recvs_plain, refs_plain, names_plain, expr_plain, cond_plain, subject_plain, choices_plain, opens_plain, turns_plain}
use Rattle.cob_parse_proc.proofs.StmtView.{arithmetic_print}
use Rattle.cob_parse_proc.proofs.ProgramOnce.{one_text}

-- ---- printings

arithmetic_plain : (d : ℕ) (a : Arithmetic) → Plain (print_arithmetic d a)
arithmetic_plain d (heads.add_to os rs) = both (print_opnds d os) (key d word.To ∷ print_recvs d rs) (opnds_plain d os) (more (key d word.To) (print_recvs d rs) (print_recvs d rs) refl (recvs_plain d rs))
arithmetic_plain d (heads.add_giving os o rs) = both (print_opnds d os) (behind d (word.To ∷ []) (print_opnd d) o ++ key d word.Giving ∷ print_recvs d rs) (opnds_plain d os)
    (both (behind d (word.To ∷ []) (print_opnd d) o) (key d word.Giving ∷ print_recvs d rs) (opened_plain d (word.To ∷ []) (print_opnd d) (opnd_plain d) o) (more (key d word.Giving) (print_recvs d rs) (print_recvs d rs) refl (recvs_plain d rs)))
arithmetic_plain d (heads.subtract_from os rs) = both (print_opnds d os) (key d word.From ∷ print_recvs d rs) (opnds_plain d os) (more (key d word.From) (print_recvs d rs) (print_recvs d rs) refl (recvs_plain d rs))
arithmetic_plain d (heads.subtract_giving os o rs) = both (print_opnds d os) (key d word.From ∷ (print_opnd d o ++ key d word.Giving ∷ print_recvs d rs)) (opnds_plain d os)
    (more (key d word.From) (print_opnd d o ++ key d word.Giving ∷ print_recvs d rs) (print_opnd d o ++ key d word.Giving ∷ print_recvs d rs) refl (both (print_opnd d o) (key d word.Giving ∷ print_recvs d rs) (opnd_plain d o) (more (key d word.Giving) (print_recvs d rs) (print_recvs d rs) refl (recvs_plain d rs))))
arithmetic_plain d (heads.multiply_by o rs) = both (print_opnd d o) (key d word.By ∷ print_recvs d rs) (opnd_plain d o) (more (key d word.By) (print_recvs d rs) (print_recvs d rs) refl (recvs_plain d rs))
arithmetic_plain d (heads.multiply_giving o p rs) = both (print_opnd d o) (key d word.By ∷ (print_opnd d p ++ key d word.Giving ∷ print_recvs d rs)) (opnd_plain d o)
    (more (key d word.By) (print_opnd d p ++ key d word.Giving ∷ print_recvs d rs) (print_opnd d p ++ key d word.Giving ∷ print_recvs d rs) refl (both (print_opnd d p) (key d word.Giving ∷ print_recvs d rs) (opnd_plain d p) (more (key d word.Giving) (print_recvs d rs) (print_recvs d rs) refl (recvs_plain d rs))))
arithmetic_plain d (heads.divide_into o rs) = both (print_opnd d o) (key d word.Into ∷ print_recvs d rs) (opnd_plain d o) (more (key d word.Into) (print_recvs d rs) (print_recvs d rs) refl (recvs_plain d rs))
arithmetic_plain d (heads.divide_giving o way p rs r) =
    let last : Plain (print_recvs d rs ++ behind d (word.Remainder ∷ []) (print_ref d) r) = both (print_recvs d rs) (behind d (word.Remainder ∷ []) (print_ref d) r) (recvs_plain d rs) (opened_plain d (word.Remainder ∷ []) (print_ref d) (ref_plain d) r) in
    both (print_opnd d o) (key d (way_word way) ∷ (print_opnd d p ++ key d word.Giving ∷ (print_recvs d rs ++ behind d (word.Remainder ∷ []) (print_ref d) r))) (opnd_plain d o)
    (ap (λ (z : List Item). key d (way_word way) ∷ z) (both (print_opnd d p) (key d word.Giving ∷ (print_recvs d rs ++ behind d (word.Remainder ∷ []) (print_ref d) r)) (opnd_plain d p) (ap (λ (z : List Item). key d word.Giving ∷ z) last)))
arithmetic_plain d (heads.compute rs e) = both (print_recvs d rs) (print_relation d rel.Equal ∷ print_expr d e) (recvs_plain d rs) (ap (λ (z : List Item). print_relation d rel.Equal ∷ z) (expr_plain d e))

arithmetic_blank : (d : ℕ) (a : Arithmetic) (t : Tail) → print_tail d (end_word a) (tail_without t) ≡ map blank (print_tail d (end_word a) t) → print_verb d (with_tail a (tail_without t)) ≡ map blank (print_verb d (with_tail a t))
arithmetic_blank d a t e = arithmetic_print d a (tail_without t) ∙ behind_plain (print_arithmetic d a) (print_tail d (end_word a) t) (print_tail d (end_word a) (tail_without t)) (arithmetic_plain d a) e ∙ ap (map blank) (sym (arithmetic_print d a t))

same_word : (v : Verb) → first_word (verb_without v) ≡ first_word v
same_word (move from to) = refl
same_word _ = refl

mutual
  stmts_blank : (d : ℕ) (ss : Stmts) → print_stmts d (stmts_without ss) ≡ map blank (print_stmts d ss)
  stmts_blank d no_stmts = refl
  stmts_blank d (more_stmts s ss) = two (print_stmt d s) (print_stmts d ss) (print_stmt d (stmt_without s)) (print_stmts d (stmts_without ss)) (stmt_blank d s) (stmts_blank d ss)

  stmt_blank : (d : ℕ) (s : Stmt) → print_stmt d (stmt_without s) ≡ map blank (print_stmt d s)
  stmt_blank d (MkStmt line v) = ap (λ (k : Keyword). item_on (suc d) 0 (Key k) ∷ print_verb (suc d) (verb_without v)) (same_word v) ∙ ap (λ (z : List Item). item_on (suc d) 0 (Key (first_word v)) ∷ z) (verb_blank (suc d) v)

  phrase_blank : (d : ℕ) (ks : List Keyword) (p : Phrase) → print_phrase d ks (phrase_without p) ≡ map blank (print_phrase d ks p)
  phrase_blank d ks left_out = refl
  phrase_blank d ks (given ss) = behind_plain (keys d ks) (print_stmts d ss) (print_stmts d (stmts_without ss)) (keys_plain d ks) (stmts_blank d ss)

  tail_blank : (d : ℕ) (k : Keyword) (t : Tail) → print_tail d k (tail_without t) ≡ map blank (print_tail d k t)
  tail_blank d k (MkTail size not_size ended) = two (print_phrase d size_words size) (print_phrase d not_size_words not_size ++ word_if d ended k) (print_phrase d size_words (phrase_without size)) (print_phrase d not_size_words (phrase_without not_size) ++ word_if d ended k) (phrase_blank d size_words size)
      (two (print_phrase d not_size_words not_size) (word_if d ended k) (print_phrase d not_size_words (phrase_without not_size)) (word_if d ended k) (phrase_blank d not_size_words not_size) (word_plain d ended k))

  whens_blank : (d : ℕ) (ws : Whens) → print_whens d (whens_without ws) ≡ map blank (print_whens d ws)
  whens_blank d no_whens = refl
  whens_blank d (more_whens w ws) = two (print_when d w) (print_whens d ws) (print_when d (when_without w)) (print_whens d (whens_without ws)) (when_blank d w) (whens_blank d ws)

  when_blank : (d : ℕ) (w : When) → print_when d (when_without w) ≡ map blank (print_when d w)
  when_blank d (MkWhen choices body) = behind_plain (each (print_choice d) choices) (print_stmts d body) (print_stmts d (stmts_without body)) (choices_plain d choices) (stmts_blank d body)

  verb_blank : (d : ℕ) (v : Verb) → print_verb d (verb_without v) ≡ map blank (print_verb d v)
  verb_blank d (add_to os rs t) = arithmetic_blank d (heads.add_to os rs) t (tail_blank d word.EndAdd t)
  verb_blank d (add_giving os o rs t) = arithmetic_blank d (heads.add_giving os o rs) t (tail_blank d word.EndAdd t)
  verb_blank d (subtract_from os rs t) = arithmetic_blank d (heads.subtract_from os rs) t (tail_blank d word.EndSubtract t)
  verb_blank d (subtract_giving os o rs t) = arithmetic_blank d (heads.subtract_giving os o rs) t (tail_blank d word.EndSubtract t)
  verb_blank d (multiply_by o rs t) = arithmetic_blank d (heads.multiply_by o rs) t (tail_blank d word.EndMultiply t)
  verb_blank d (multiply_giving o p rs t) = arithmetic_blank d (heads.multiply_giving o p rs) t (tail_blank d word.EndMultiply t)
  verb_blank d (divide_into o rs t) = arithmetic_blank d (heads.divide_into o rs) t (tail_blank d word.EndDivide t)
  verb_blank d (divide_giving o way p rs r t) = arithmetic_blank d (heads.divide_giving o way p rs r) t (tail_blank d word.EndDivide t)
  verb_blank d (compute rs e t) = arithmetic_blank d (heads.compute rs e) t (tail_blank d word.EndCompute t)
  verb_blank d (if_ test ss other ended) = behind_plain (print_cond d test) (print_stmts d ss ++ (print_phrase d (word.Else ∷ []) other ++ word_if d ended word.EndIf)) (print_stmts d (stmts_without ss) ++ (print_phrase d (word.Else ∷ []) (phrase_without other) ++ word_if d ended word.EndIf)) (cond_plain d test)
      (two (print_stmts d ss) (print_phrase d (word.Else ∷ []) other ++ word_if d ended word.EndIf) (print_stmts d (stmts_without ss)) (print_phrase d (word.Else ∷ []) (phrase_without other) ++ word_if d ended word.EndIf) (stmts_blank d ss)
      (two (print_phrase d (word.Else ∷ []) other) (word_if d ended word.EndIf) (print_phrase d (word.Else ∷ []) (phrase_without other)) (word_if d ended word.EndIf) (phrase_blank d (word.Else ∷ []) other) (word_plain d ended word.EndIf)))
  verb_blank d (evaluate subject whens other ended) = behind_plain (print_subject d subject) (print_whens d whens ++ (print_phrase d (word.When ∷ word.Other ∷ []) other ++ word_if d ended word.EndEvaluate)) (print_whens d (whens_without whens) ++ (print_phrase d (word.When ∷ word.Other ∷ []) (phrase_without other) ++ word_if d ended word.EndEvaluate)) (subject_plain d subject)
      (two (print_whens d whens) (print_phrase d (word.When ∷ word.Other ∷ []) other ++ word_if d ended word.EndEvaluate) (print_whens d (whens_without whens)) (print_phrase d (word.When ∷ word.Other ∷ []) (phrase_without other) ++ word_if d ended word.EndEvaluate) (whens_blank d whens)
      (two (print_phrase d (word.When ∷ word.Other ∷ []) other) (word_if d ended word.EndEvaluate) (print_phrase d (word.When ∷ word.Other ∷ []) (phrase_without other)) (word_if d ended word.EndEvaluate) (phrase_blank d (word.When ∷ word.Other ∷ []) other) (word_plain d ended word.EndEvaluate)))
  verb_blank d (perform_inline turns body) = behind_plain (print_if (print_loop d) turns) (print_stmts d body ++ key d word.EndPerform ∷ []) (print_stmts d (stmts_without body) ++ key d word.EndPerform ∷ []) (turns_plain d turns)
      (two (print_stmts d body) (key d word.EndPerform ∷ []) (print_stmts d (stmts_without body)) (key d word.EndPerform ∷ []) (stmts_blank d body) refl)
  verb_blank d (read file into end not_end ended) = ap (λ (z : List Item). name d file ∷ z)
      (behind_plain (behind d (word.Into ∷ []) (print_ref d) into) (print_phrase d (word.End ∷ []) end ++ (print_phrase d (word.Not ∷ word.End ∷ []) not_end ++ word_if d ended word.EndRead)) (print_phrase d (word.End ∷ []) (phrase_without end) ++ (print_phrase d (word.Not ∷ word.End ∷ []) (phrase_without not_end) ++ word_if d ended word.EndRead)) (opened_plain d (word.Into ∷ []) (print_ref d) (ref_plain d) into)
      (two (print_phrase d (word.End ∷ []) end) (print_phrase d (word.Not ∷ word.End ∷ []) not_end ++ word_if d ended word.EndRead) (print_phrase d (word.End ∷ []) (phrase_without end)) (print_phrase d (word.Not ∷ word.End ∷ []) (phrase_without not_end) ++ word_if d ended word.EndRead) (phrase_blank d (word.End ∷ []) end)
      (two (print_phrase d (word.Not ∷ word.End ∷ []) not_end) (word_if d ended word.EndRead) (print_phrase d (word.Not ∷ word.End ∷ []) (phrase_without not_end)) (word_if d ended word.EndRead) (phrase_blank d (word.Not ∷ word.End ∷ []) not_end) (word_plain d ended word.EndRead))))
  verb_blank d (move from to) = both (print_opnd d from) (key d word.To ∷ print_refs d to) (opnd_plain d from) (ap (λ (z : List Item). key d word.To ∷ z) (refs_plain d to))
  verb_blank d (set text) = refl
  verb_blank d (display operands) = opnds_plain d operands
  verb_blank d (perform_range first thru turns) = ap (λ (z : List Item). name d first ∷ z) (both (behind d (word.Thru ∷ []) (print_name_only d) thru) (print_if (print_loop d) turns) (opened_plain d (word.Thru ∷ []) (print_name_only d) (λ text. refl) thru) (turns_plain d turns))
  verb_blank d (go text) = refl
  verb_blank d exit = refl
  verb_blank d continue = refl
  verb_blank d stop_run = refl
  verb_blank d (open_ files) = opens_plain d files
  verb_blank d (close names) = names_plain d names
  verb_blank d (write rec from ended) = both (print_ref d rec) (behind d (word.From ∷ []) (print_opnd d) from ++ word_if d ended word.EndWrite) (ref_plain d rec) (both (behind d (word.From ∷ []) (print_opnd d) from) (word_if d ended word.EndWrite) (opened_plain d (word.From ∷ []) (print_opnd d) (opnd_plain d) from) (word_plain d ended word.EndWrite))

-- ---- what they take

mutual
  stmts_take : (ss : Stmts) (p : Cue) → takes_stmts (stmts_without ss) p ≡ takes_stmts ss p
  stmts_take no_stmts p = refl
  stmts_take (more_stmts s no_stmts) p = ap (λ (z : Bool). z || is Starts p) (stmt_take s p)
  stmts_take (more_stmts s (more_stmts u us)) p = stmts_take (more_stmts u us) p

  stmt_take : (s : Stmt) (p : Cue) → takes_stmt (stmt_without s) p ≡ takes_stmt s p
  stmt_take (MkStmt line v) p = verb_take v p

  phrase_take : (ph : Phrase) (before own : Bool) (p : Cue) → takes_phrase (phrase_without ph) before own p ≡ takes_phrase ph before own p
  phrase_take left_out before own p = refl
  phrase_take (given ss) before own p = stmts_take ss p

  tail_take : (t : Tail) (before end : Bool) (p : Cue) → takes_tail (tail_without t) before end p ≡ takes_tail t before end p
  tail_take (MkTail size not_size ended) before end p = ap (λ (z : Bool). unless ended z end) (phrase_take not_size (takes_phrase (phrase_without size) before (is Size p) p) (is NotSize p) p ∙ ap (λ (z : Bool). takes_phrase not_size z (is NotSize p) p) (phrase_take size before (is Size p) p))

  whens_take : (ws : Whens) (p : Cue) → takes_whens (whens_without ws) p ≡ takes_whens ws p
  whens_take no_whens p = refl
  whens_take (more_whens w no_whens) p = when_take w p
  whens_take (more_whens w (more_whens x xs)) p = whens_take (more_whens x xs) p

  when_take : (w : When) (p : Cue) → takes_when (when_without w) p ≡ takes_when w p
  when_take (MkWhen choices body) p = stmts_take body p

  verb_take : (v : Verb) (p : Cue) → takes_verb (verb_without v) p ≡ takes_verb v p
  verb_take (add_to os rs t) p = tail_take t _ _ p
  verb_take (add_giving os o rs t) p = tail_take t _ _ p
  verb_take (subtract_from os rs t) p = tail_take t _ _ p
  verb_take (subtract_giving os o rs t) p = tail_take t _ _ p
  verb_take (multiply_by o rs t) p = tail_take t _ _ p
  verb_take (multiply_giving o q rs t) p = tail_take t _ _ p
  verb_take (divide_into o rs t) p = tail_take t _ _ p
  verb_take (divide_giving o way q rs r t) p = tail_take t _ _ p
  verb_take (compute rs e t) p = tail_take t _ _ p
  verb_take (if_ test ss other ended) p = ap (λ (z : Bool). unless ended z (is EndIf p)) (phrase_take other (takes_stmts (stmts_without ss) p) (is Else p) p ∙ ap (λ (z : Bool). takes_phrase other z (is Else p) p) (stmts_take ss p))
  verb_take (evaluate subject ws other ended) p = ap (λ (z : Bool). unless ended z (is EndEvaluate p)) (phrase_take other (takes_whens (whens_without ws) p) (is cue.Whens p) p ∙ ap (λ (z : Bool). takes_phrase other z (is cue.Whens p) p) (whens_take ws p))
  verb_take (perform_inline turns body) p = refl
  verb_take (read file into end not_end ended) p = ap (λ (z : Bool). unless ended z (is EndRead p)) (phrase_take not_end (takes_phrase (phrase_without end) (takes_into into p) (is AtEnd p) p) (is NotAtEnd p) p ∙ ap (λ (z : Bool). takes_phrase not_end z (is NotAtEnd p) p) (phrase_take end (takes_into into p) (is AtEnd p) p))
  verb_take (move from to) p = refl
  verb_take (set text) p = refl
  verb_take (display operands) p = refl
  verb_take (perform_range first thru turns) p = refl
  verb_take (go text) p = refl
  verb_take exit p = refl
  verb_take continue p = refl
  verb_take stop_run p = refl
  verb_take (open_ files) p = refl
  verb_take (close names) p = refl
  verb_take (write rec from ended) p = refl

two_take : (a b : Phrase) (before m n : Bool) (p : Cue) → takes_phrase (phrase_without b) (takes_phrase (phrase_without a) before m p) n p ≡ takes_phrase b (takes_phrase a before m p) n p
two_take a b before m n p = phrase_take b (takes_phrase (phrase_without a) before m p) n p ∙ ap (λ (z : Bool). takes_phrase b z n p) (phrase_take a before m p)

-- ---- shapes

ended_shaped : (x : Bool) (b c : Bool) → b ≡ c → ShapedEnd x c → ShapedEnd x b
ended_shaped false b c e g = tt
ended_shaped true b c e g = e ∙ g

mutual
  stmts_shaped : (ss : Stmts) → ShapedStmts ss → ShapedStmts (stmts_without ss)
  stmts_shaped no_stmts g = absurd g
  stmts_shaped (more_stmts s no_stmts) g = stmt_shaped s g
  stmts_shaped (more_stmts s (more_stmts u us)) g = (stmt_shaped s g.0, stmt_take s Starts ∙ g.1, stmts_shaped (more_stmts u us) g.2)

  stmt_shaped : (s : Stmt) → ShapedStmt s → ShapedStmt (stmt_without s)
  stmt_shaped (MkStmt line v) g = verb_shaped v g

  phrase_shaped : (ph : Phrase) (b c : Bool) → b ≡ c → ShapedPhrase ph c → ShapedPhrase (phrase_without ph) b
  phrase_shaped left_out b c e g = tt
  phrase_shaped (given ss) b c e g = (stmts_shaped ss g.0, e ∙ g.1)

  tail_shaped : (t : Tail) (end : Cue) → ShapedTail t end → ShapedTail (tail_without t) end
  tail_shaped (MkTail size not_size ended) end g = (
    phrase_shaped size false false refl g.0,
    phrase_shaped not_size (takes_phrase (phrase_without size) false false NotSize) (takes_phrase size false false NotSize) (phrase_take size false false NotSize) g.1,
    ended_shaped ended (takes_phrase (phrase_without not_size) (takes_phrase (phrase_without size) false false end) false end) (takes_phrase not_size (takes_phrase size false false end) false end) (two_take size not_size false false false end) g.2,
  )

  whens_shaped : (ws : Whens) → ShapedWhens ws → ShapedWhens (whens_without ws)
  whens_shaped no_whens g = absurd g
  whens_shaped (more_whens w no_whens) g = when_shaped w g
  whens_shaped (more_whens w (more_whens x xs)) g = (when_shaped w g.0, when_take w cue.Whens ∙ g.1, whens_shaped (more_whens x xs) g.2)

  when_shaped : (w : When) → ShapedWhen w → ShapedWhen (when_without w)
  when_shaped (MkWhen choices body) g = (g.0, g.1, stmts_shaped body g.2)

  verb_shaped : (v : Verb) → ShapedVerb v → ShapedVerb (verb_without v)
  verb_shaped (add_to os rs t) g = (g.0, g.1, tail_shaped t EndAdd g.2)
  verb_shaped (add_giving os o rs t) g = (g.0, g.1, tail_shaped t EndAdd g.2)
  verb_shaped (subtract_from os rs t) g = (g.0, g.1, tail_shaped t EndSubtract g.2)
  verb_shaped (subtract_giving os o rs t) g = (g.0, g.1, tail_shaped t EndSubtract g.2)
  verb_shaped (multiply_by o rs t) g = (g.0, tail_shaped t EndMultiply g.1)
  verb_shaped (multiply_giving o q rs t) g = (g.0, tail_shaped t EndMultiply g.1)
  verb_shaped (divide_into o rs t) g = (g.0, tail_shaped t EndDivide g.1)
  verb_shaped (divide_giving o way q rs r t) g = (g.0, tail_shaped t EndDivide g.1)
  verb_shaped (compute rs e t) g = (g.0, tail_shaped t EndCompute g.1)
  verb_shaped (if_ test ss other ended) g = (
    g.0,
    stmts_shaped ss g.1,
    phrase_shaped other (takes_stmts (stmts_without ss) Else) (takes_stmts ss Else) (stmts_take ss Else) g.2,
    ended_shaped ended (takes_phrase (phrase_without other) (takes_stmts (stmts_without ss) EndIf) false EndIf) (takes_phrase other (takes_stmts ss EndIf) false EndIf) (phrase_take other (takes_stmts (stmts_without ss) EndIf) false EndIf ∙ ap (λ (z : Bool). takes_phrase other z false EndIf) (stmts_take ss EndIf)) g.3,
  )
  verb_shaped (evaluate subject ws other ended) g = (
    whens_shaped ws g.0,
    phrase_shaped other (takes_whens (whens_without ws) cue.Whens) (takes_whens ws cue.Whens) (whens_take ws cue.Whens) g.1,
    ended_shaped ended (takes_phrase (phrase_without other) (takes_whens (whens_without ws) EndEvaluate) false EndEvaluate) (takes_phrase other (takes_whens ws EndEvaluate) false EndEvaluate) (phrase_take other (takes_whens (whens_without ws) EndEvaluate) false EndEvaluate ∙ ap (λ (z : Bool). takes_phrase other z false EndEvaluate) (whens_take ws EndEvaluate)) g.2,
  )
  verb_shaped (perform_inline turns body) g = (g.0, stmts_shaped body g.1)
  verb_shaped (read file into end not_end ended) g = (
    phrase_shaped end false false refl g.0,
    phrase_shaped not_end (takes_phrase (phrase_without end) false false NotAtEnd) (takes_phrase end false false NotAtEnd) (phrase_take end false false NotAtEnd) g.1,
    ended_shaped ended (takes_phrase (phrase_without not_end) (takes_phrase (phrase_without end) false false EndRead) false EndRead) (takes_phrase not_end (takes_phrase end false false EndRead) false EndRead) (two_take end not_end false false false EndRead) g.2,
  )
  verb_shaped (move from to) g = g
  verb_shaped (set text) g = g
  verb_shaped (display operands) g = g
  verb_shaped (perform_range first thru turns) g = g
  verb_shaped (go text) g = g
  verb_shaped exit g = g
  verb_shaped continue g = g
  verb_shaped stop_run g = g
  verb_shaped (open_ files) g = g
  verb_shaped (close names) g = g
  verb_shaped (write rec from ended) g = g

-- ---- whole programs

each_blank : {A : Type 0} (prints : A → List Item) (without : A → A) → ((a : A) → prints (without a) ≡ map blank (prints a)) → (xs : List A) → each prints (map without xs) ≡ map blank (each prints xs)
each_blank prints without b [] = refl
each_blank prints without b (x ∷ xs) = two (prints x) (each prints xs) (prints (without x)) (each prints (map without xs)) (b x) (each_blank prints without b xs)

sentence_blank : (ss : Stmts) → print_sentence (stmts_without ss) ≡ map blank (print_sentence ss)
sentence_blank ss = two (print_stmts 0 ss) (stop 0 ∷ []) (print_stmts 0 (stmts_without ss)) (stop 0 ∷ []) (stmts_blank 0 ss) refl

paragraph_blank : (p : Paragraph) → print_paragraph (paragraph_without p) ≡ map blank (print_paragraph p)
paragraph_blank p = ap (λ (z : List Item). item_on 0 0 (Name p.name) ∷ stop 0 ∷ z) (each_blank print_sentence stmts_without sentence_blank p.sentences)

end_blank : (o : Option EndProgram) → print_if print_end (option_map end_without o) ≡ map blank (print_if print_end o)
end_blank None = refl
end_blank (Some e) = refl

tree_blank : (t : Tree) → print_tree (tree_without t) ≡ map blank (print_tree t)
tree_blank t =
    two (print_front t.front) (print.heading (word.Procedure ∷ word.Division ∷ []) ++ (each print_sentence t.sentences ++ (each print_paragraph t.paragraphs ++ print_if print_end t.end))) (print_front (without_lines t.front)) (print.heading (word.Procedure ∷ word.Division ∷ []) ++ (each print_sentence (map stmts_without t.sentences) ++ (each print_paragraph (map paragraph_without t.paragraphs) ++ print_if print_end (option_map end_without t.end)))) (front_blank t.front)
    (ap (λ (z : List Item). print.heading (word.Procedure ∷ word.Division ∷ []) ++ z)
    (two (each print_sentence t.sentences) (each print_paragraph t.paragraphs ++ print_if print_end t.end) (each print_sentence (map stmts_without t.sentences)) (each print_paragraph (map paragraph_without t.paragraphs) ++ print_if print_end (option_map end_without t.end)) (each_blank print_sentence stmts_without sentence_blank t.sentences)
    (two (each print_paragraph t.paragraphs) (print_if print_end t.end) (each print_paragraph (map paragraph_without t.paragraphs)) (print_if print_end (option_map end_without t.end)) (each_blank print_paragraph paragraph_without paragraph_blank t.paragraphs) (end_blank t.end))))

all_shaped : {A : Type 0} (P : A → Type 0) (without : A → A) → ((a : A) → P a → P (without a)) → (xs : List A) → AllByRecursion P xs → AllByRecursion P (map without xs)
all_shaped P without f [] g = tt
all_shaped P without f (x ∷ xs) g = (f x g.0, all_shaped P without f xs g.1)

tree_shaped : (t : Tree) → ShapedTree t → ShapedTree (tree_without t)
tree_shaped t g = (shaped t.front g.0, all_shaped ShapedStmts stmts_without stmts_shaped t.sentences g.1, all_shaped ShapedParagraph paragraph_without (λ p h. all_shaped ShapedStmts stmts_without stmts_shaped p.sentences h) t.paragraphs g.2)

-- ---- the law

abbrev symbol_of_item : Item → Symbol
symbol_of_item i = i.symbol

abbrev bare : Symbol → Sign
bare y = record { symbol = y; line = 0 }

on_line_zero : (i : Item) (o : Option ℕ) → i.line ≡ o → IsLine (blank i).line 0
on_line_zero i None e = subst (λ (l : Option ℕ). IsLine (blank (record { symbol = i.symbol; line = l; depth = i.depth })).line 0) (sym e) tt
on_line_zero i (Some l) e = subst (λ (l : Option ℕ). IsLine (blank (record { symbol = i.symbol; line = l; depth = i.depth })).line 0) (sym e) refl

fits_bare : (is : List Item) → Matches by_symbol (map blank is) (map bare (map symbol_of_item is))
fits_bare [] = tt
fits_bare (i ∷ is) = (record { symbol = refl; line = on_line_zero i i.line refl }, fits_bare is)

pub same_but_for_lines : (a b : Tree) → ShapedTree a → ShapedTree b → map (λ i. i.symbol) (print_tree a) ≡ map (λ i. i.symbol) (print_tree b) → tree_without a ≡ tree_without b
same_but_for_lines a b good good' e =
    one_text (map bare (map symbol_of_item (print_tree a))) (tree_without a) (tree_without b)
    (subst (λ (is : List Item). Matches by_symbol is (map bare (map symbol_of_item (print_tree a)))) (sym (tree_blank a)) (fits_bare (print_tree a))) (tree_shaped a good)
    (subst (λ (is : List Item). Matches by_symbol is (map bare (map symbol_of_item (print_tree a)))) (sym (tree_blank b)) (subst (λ (ys : List Symbol). Matches by_symbol (map blank (print_tree b)) (map bare ys)) (sym e) (fits_bare (print_tree b)))) (tree_shaped b good')
