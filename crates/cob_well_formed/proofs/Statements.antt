-- What is typed without a broken rule can be done.
use Rattle.std.proofs.Common.{ℕ, suc, List, [], ◌∷◌, ◌++◌}
use Rattle.cob_tree.specs.declared.keyword.Keyword.{Keyword}
use Rattle.cob_tree.specs.declared.keyword.Keyword.TheVariants as word
use Rattle.cob_tree.specs.Items.{each, behind, key, keys, stop, word_if}
use Rattle.cob_tree.specs.Stmt as tree
use Rattle.cob_tree.specs.PrintExpr.{print_opnd, print_ref, print_expr, print_cond}
use Rattle.cob_tree.specs.PrintFront.{print_front, heading, print_if}
use Rattle.cob_tree.specs.PrintStmt.{print_opnds, print_recvs, print_refs, print_subject, print_choice, print_loop, print_name_only, size_words, not_size_words, print_stmts, print_stmt, print_verb, print_phrase, print_tail, print_whens, print_when, print_sentence, print_paragraph, print_end}
use Rattle.cob_data.specs.declared.layout.Layout.{Layout}
use Rattle.cob_program.specs.Act.{Stmts, MkStmt, no_stmts, more_stmts, Phrase, left_out, given}
use Rattle.cob_typed_conds.specs.declared.selections.Looked.{Looked}
use Rattle.cob_typed_exprs.specs.Judged.{Judged, each_of}
use Rattle.cob_typed_exprs.specs.Scope.{Scope, means_something, record_named}
use Rattle.cob_typed_exprs.specs.Sums.{operand}
use Rattle.cob_typed_verbs.specs.Arithmetic.{Worked, add_to, add_giving, subtract_from, subtract_giving, multiply_by, multiply_giving, divide_into, divide_giving, compute}
use Rattle.cob_typed_conds.specs.Conditions.{walk_cond}
use Rattle.cob_typed_conds.specs.Selections.{looked_at, selection}
use Rattle.cob_typed.specs.Statements.{found_on, stmts_if, range_act, turns_of, typed_stmts, typed_phrase, typed_arith, typed_whens, typed_verb}
use Rattle.cob_typed_verbs.specs.Verbs.{move_act, write_act, read_parts}
use Rattle.cob_typed.specs.Typing.{scope_of, joined, typed_sentences, typed_paras, typed, clashes, IsTyped}
use Rattle.cob_well_formed.specs.Numerals.{AreShort, HasShortNumerals}
use Rattle.cob_well_formed.specs.Layouts.{HasWellFormedFlags}
use Rattle.cob_world.specs.Doing.{CanDo, CanDoPhrase, CanDoAct, CanDoWhens, CanDoParas, CanDoProgram}
use Rattle.cob_well_formed.proofs.ShortValues.{short_left, short_right}
use Rattle.cob_well_formed.proofs.Keeping.{IsKept, IsSilent, silent_left, silent_right, kept_on}
use Rattle.cob_well_formed.proofs.Receivers.{CanWork, add_to_can, add_giving_can, subtract_from_can, subtract_giving_can, multiply_by_can, multiply_giving_can, divide_into_can, divide_giving_can, compute_can}
use Rattle.cob_well_formed.proofs.Senders.{short_operand}
use Rattle.cob_well_formed.proofs.Decisions.{able_cond}
use Rattle.cob_well_formed.proofs.Choices.{able_choices}
use Rattle.cob_well_formed.proofs.Actions.{able_moves, able_set, able_write, able_turns}

can_if : (l : Layout) (x : Phrase) → CanDoPhrase l x → CanDo l (stmts_if x)
can_if l left_out can = tt
can_if l (given ss) can = can

can_joined : (l : Layout) (xs ys : Stmts) → CanDo l xs → CanDo l ys → CanDo l (joined xs ys)
can_joined l no_stmts ys first second = second
can_joined l (more_stmts (MkStmt n line a) xs) ys first second = (first.0, can_joined l xs ys first.1 second)

module _ (s : Scope) (flags : HasWellFormedFlags s.layout) where
  abbrev l : Layout
  l = s.layout

  mutual
    can_stmts : (d n : ℕ) (ss : tree.Stmts) → AreShort (print_stmts d ss) → IsSilent (typed_stmts s n ss).found →
        CanDo l (typed_stmts s n ss).value
    can_stmts d n tree.no_stmts short silent = tt
    can_stmts d n (tree.more_stmts (tree.MkStmt line v) ss) short silent =
        let x = typed_verb s line (suc n) v in
        let later = typed_stmts s x.next ss in
        let here = short_left (print_stmt d (tree.MkStmt line v)) (print_stmts d ss) short in (
          can_verb (suc d) line (suc n) v here.1 (silent_left x.found [] (silent_left (x.found ++ []) (later.found ++ []) silent)),
          can_stmts d x.next ss (short_right (print_stmt d (tree.MkStmt line v)) (print_stmts d ss) short) (silent_left later.found [] (silent_right (x.found ++ []) (later.found ++ []) silent)),
        )

    can_phrase : (d n : ℕ) (words : List Keyword) (x : tree.Phrase) → AreShort (print_phrase d words x) →
        IsSilent (typed_phrase s n x).found → CanDoPhrase l (typed_phrase s n x).value
    can_phrase d n words tree.left_out short silent = tt
    can_phrase d n words (tree.given ss) short silent =
        can_stmts d n ss (short_right (keys d words) (print_stmts d ss) short) (silent_left (typed_stmts s n ss).found [] silent)

    can_arith : (d line n : ℕ) (end : Keyword) (w : Judged Worked) (x : tree.Tail) → (IsKept w.broken → CanWork s w.value) →
        AreShort (print_tail d end x) → IsSilent (typed_arith s line n w x).found →
        CanDoAct l (typed_arith s line n w x).value
    can_arith d line n end w (tree.MkTail size not_size ended) can short silent =
        let a = typed_phrase s n size in
        let b = typed_phrase s a.next not_size in
        let both_ = silent_right (found_on line w.broken) (a.found ++ (b.found ++ [])) silent in
        let behind_ = short_right (print_phrase d size_words size) (print_phrase d not_size_words not_size ++ word_if d ended end) short in (
          can (kept_on line w.broken (silent_left (found_on line w.broken) (a.found ++ (b.found ++ [])) silent)),
          can_phrase d n size_words size (short_left (print_phrase d size_words size) (print_phrase d not_size_words not_size ++ word_if d ended end) short) (silent_left a.found (b.found ++ []) both_),
          can_if l b.value (can_phrase d a.next not_size_words not_size (short_left (print_phrase d not_size_words not_size) (word_if d ended end) behind_) (silent_left b.found [] (silent_right a.found (b.found ++ []) both_))),
        )

    can_whens : (d line n : ℕ) (subject : Looked) (ws : tree.Whens) → AreShort (print_whens d ws) →
        IsSilent (typed_whens s line n subject ws).found → CanDoWhens l (typed_whens s line n subject ws).value
    can_whens d line n subject tree.no_whens short silent = tt
    can_whens d line n subject (tree.more_whens (tree.MkWhen choices body) ws) short silent =
        let tests = each_of (selection s subject) choices in
        let x = typed_stmts s n body in
        let later = typed_whens s line x.next subject ws in
        let here = short_left (print_when d (tree.MkWhen choices body)) (print_whens d ws) short in
        let rest = silent_right (found_on line tests.broken) (x.found ++ (later.found ++ [])) silent in (
          able_choices s flags d subject choices (short_left (each (print_choice d) choices) (print_stmts d body) here)
              (kept_on line tests.broken (silent_left (found_on line tests.broken) (x.found ++ (later.found ++ [])) silent)),
          can_stmts d n body (short_right (each (print_choice d) choices) (print_stmts d body) here) (silent_left x.found (later.found ++ []) rest),
          can_whens d line x.next subject ws (short_right (print_when d (tree.MkWhen choices body)) (print_whens d ws) short)
              (silent_left later.found [] (silent_right x.found (later.found ++ []) rest)),
        )

    can_verb : (d line n : ℕ) (v : tree.Verb) → AreShort (print_verb d v) → IsSilent (typed_verb s line n v).found →
        CanDoAct l (typed_verb s line n v).value
    can_verb d line n (tree.move from to) short silent =
        let is = kept_on line (move_act s from to).broken silent in
        able_moves s flags (operand s from).value to (short_operand s d from (short_left (print_opnd d from) (key d word.To ∷ print_refs d to) short)) is.1.0
    can_verb d line n (tree.set text) short silent = able_set s flags _
    can_verb d line n (tree.display operands) short silent = tt
    can_verb d line n (tree.add_to addends to tail) short silent =
        can_arith d line n word.EndAdd (add_to s addends to) tail (add_to_can s addends to)
        (short_right (print_recvs d to) _ (short_right (print_opnds d addends) _ short).1) silent
    can_verb d line n (tree.add_giving addends to giving tail) short silent =
        can_arith d line n word.EndAdd (add_giving s addends to giving) tail (add_giving_can s addends to giving)
        (short_right (print_recvs d giving) _ (short_right (behind d (word.To ∷ []) (print_opnd d) to) _ (short_right (print_opnds d addends) _ short)).1) silent
    can_verb d line n (tree.subtract_from less from tail) short silent =
        can_arith d line n word.EndSubtract (subtract_from s less from) tail (subtract_from_can s less from)
        (short_right (print_recvs d from) _ (short_right (print_opnds d less) _ short).1) silent
    can_verb d line n (tree.subtract_giving less from giving tail) short silent =
        can_arith d line n word.EndSubtract (subtract_giving s less from giving) tail (subtract_giving_can s less from giving)
        (short_right (print_recvs d giving) _ (short_right (print_opnd d from) _ (short_right (print_opnds d less) _ short).1).1) silent
    can_verb d line n (tree.multiply_by factor by_ tail) short silent =
        can_arith d line n word.EndMultiply (multiply_by s factor by_) tail (multiply_by_can s factor by_)
        (short_right (print_recvs d by_) _ (short_right (print_opnd d factor) _ short).1) silent
    can_verb d line n (tree.multiply_giving factor by_ giving tail) short silent =
        can_arith d line n word.EndMultiply (multiply_giving s factor by_ giving) tail (multiply_giving_can s factor by_ giving)
        (short_right (print_recvs d giving) _ (short_right (print_opnd d by_) _ (short_right (print_opnd d factor) _ short).1).1) silent
    can_verb d line n (tree.divide_into divisor into tail) short silent =
        can_arith d line n word.EndDivide (divide_into s divisor into) tail (divide_into_can s divisor into)
        (short_right (print_recvs d into) _ (short_right (print_opnd d divisor) _ short).1) silent
    can_verb d line n (tree.divide_giving first way second giving remainder tail) short silent =
        can_arith d line n word.EndDivide (divide_giving s first way second giving remainder) tail (divide_giving_can s first way second giving remainder)
        (short_right (behind d (word.Remainder ∷ []) (print_ref d) remainder) _ (short_right (print_recvs d giving) _ (short_right (print_opnd d second) _ (short_right (print_opnd d first) _ short).1).1)) silent
    can_verb d line n (tree.compute to value tail) short silent =
        can_arith d line n word.EndCompute (compute s to value) tail (compute_can s to value)
        (short_right (print_expr d value) _ (short_right (print_recvs d to) _ short).1) silent
    can_verb d line n (tree.if_ test ss other ended) short silent =
        let t = walk_cond s test in
        let x = typed_stmts s n ss in
        let y = typed_phrase s x.next other in
        let rest = silent_right (found_on line t.broken) (x.found ++ (y.found ++ [])) silent in
        let else_ = print_phrase d (word.Else ∷ []) other ++ word_if d ended word.EndIf in
        let lists = short_right (print_cond d test) (print_stmts d ss ++ else_) short in (
          able_cond s flags test (kept_on line t.broken (silent_left (found_on line t.broken) (x.found ++ (y.found ++ [])) silent)),
          can_stmts d n ss (short_left (print_stmts d ss) else_ lists) (silent_left x.found (y.found ++ []) rest),
          can_if l y.value (can_phrase d x.next (word.Else ∷ []) other (short_left (print_phrase d (word.Else ∷ []) other) (word_if d ended word.EndIf) (short_right (print_stmts d ss) else_ lists))
              (silent_left y.found [] (silent_right x.found (y.found ++ []) rest))),
        )
    can_verb d line n (tree.evaluate subject whens other ended) short silent =
        let looked = looked_at s subject in
        let x = typed_whens s line n looked.value whens in
        let y = typed_phrase s x.next other in
        let rest = silent_right (found_on line looked.broken) (x.found ++ (y.found ++ [])) silent in
        let words = word.When ∷ word.Other ∷ [] in
        let else_ = print_phrase d words other ++ word_if d ended word.EndEvaluate in
        let lists = short_right (print_subject d subject) (print_whens d whens ++ else_) short in (
          can_whens d line n looked.value whens (short_left (print_whens d whens) else_ lists) (silent_left x.found (y.found ++ []) rest),
          can_if l y.value (can_phrase d x.next words other (short_left (print_phrase d words other) (word_if d ended word.EndEvaluate) (short_right (print_whens d whens) else_ lists))
              (silent_left y.found [] (silent_right x.found (y.found ++ []) rest))),
        )
    can_verb d line n (tree.perform_range first thru turns) short silent =
        let is = kept_on line (range_act s first thru turns).broken silent in
        (able_turns s flags d turns (short_right (behind d (word.Thru ∷ []) (print_name_only d) thru) (print_if (print_loop d) turns) short.1) is.1.1.0, tt)
    can_verb d line n (tree.perform_inline turns body) short silent =
        let t = turns_of s turns in
        let x = typed_stmts s n body in
        let loop = print_if (print_loop d) turns in
        let body_ = print_stmts d body ++ key d word.EndPerform ∷ [] in (
          able_turns s flags d turns (short_left loop body_ short) (kept_on line t.broken (silent_left (found_on line t.broken) (x.found ++ []) silent)),
          can_stmts d n body (short_left (print_stmts d body) (key d word.EndPerform ∷ []) (short_right loop body_ short)) (silent_left x.found [] (silent_right (found_on line t.broken) (x.found ++ []) silent)),
        )
    can_verb d line n (tree.go text) short silent = tt
    can_verb d line n tree.exit short silent = tt
    can_verb d line n tree.continue short silent = tt
    can_verb d line n tree.stop_run short silent = tt
    can_verb d line n (tree.open_ files) short silent = tt
    can_verb d line n (tree.close names) short silent = tt
    can_verb d line n (tree.read file into end not_end ended) short silent =
        let p = read_parts s file into in
        let a = typed_phrase s n end in
        let b = typed_phrase s a.next not_end in
        let rest = silent_right (found_on line p.broken) (a.found ++ (b.found ++ [])) silent in
        let first = word.End ∷ [] in
        let second = word.Not ∷ word.End ∷ [] in
        let last = print_phrase d second not_end ++ word_if d ended word.EndRead in
        let lists = short_right (behind d (word.Into ∷ []) (print_ref d) into) (print_phrase d first end ++ last) short.1 in (
          can_phrase d n first end (short_left (print_phrase d first end) last lists) (silent_left a.found (b.found ++ []) rest),
          can_if l b.value (can_phrase d a.next second not_end (short_left (print_phrase d second not_end) (word_if d ended word.EndRead) (short_right (print_phrase d first end) last lists))
              (silent_left b.found [] (silent_right a.found (b.found ++ []) rest))),
        )
    can_verb d line n (tree.write rec_ from ended) short silent =
        let is = kept_on line (write_act s rec_ from).broken silent in
        let from_ = behind d (word.From ∷ []) (print_opnd d) from in
        let given_ = short_left from_ (word_if d ended word.EndWrite) (short_right (print_ref d rec_) (from_ ++ word_if d ended word.EndWrite) short) in
        able_write s flags d (means_something s rec_) (record_named s rec_) from given_ is.0 is.1.0

  can_sentences : (n : ℕ) (ss : List tree.Stmts) → AreShort (each print_sentence ss) →
      IsSilent (typed_sentences s n ss).found → CanDo l (typed_sentences s n ss).value
  can_sentences n [] short silent = tt
  can_sentences n (ss ∷ more) short silent =
      let x = typed_stmts s n ss in
      let y = typed_sentences s x.next more in
      let here = short_left (print_sentence ss) (each print_sentence more) short in
      can_joined l x.value y.value (can_stmts 0 n ss (short_left (print_stmts 0 ss) (stop 0 ∷ []) here) (silent_left x.found (y.found ++ []) silent))
      (can_sentences x.next more (short_right (print_sentence ss) (each print_sentence more) short) (silent_left y.found [] (silent_right x.found (y.found ++ []) silent)))

  can_paras : (n : ℕ) (ps : List tree.Paragraph) → AreShort (each print_paragraph ps) →
      IsSilent (typed_paras s n ps).found → CanDoParas l (typed_paras s n ps).value
  can_paras n [] short silent = tt
  can_paras n (p ∷ ps) short silent =
      let x = typed_sentences s n p.sentences in
      let y = typed_paras s x.next ps in
      let here = short_left (print_paragraph p) (each print_paragraph ps) short in (
        can_sentences n p.sentences here.1.1 (silent_left x.found (y.found ++ []) silent),
        can_paras x.next ps (short_right (print_paragraph p) (each print_paragraph ps) short) (silent_left y.found [] (silent_right x.found (y.found ++ []) silent)),
      )

pub can_do : (l : Layout) (t : tree.Tree) → HasWellFormedFlags l → HasShortNumerals t → IsTyped l t → CanDoProgram (typed l t)
can_do l t flags short kept_ =
    let s = scope_of l t in
    let x = typed_sentences s 1 t.sentences in
    let y = typed_paras s x.next t.paragraphs in
    let silent = silent_left (x.found ++ (y.found ++ [])) (clashes [] t.paragraphs) kept_ in
    let paragraphs = each print_paragraph t.paragraphs in
    let end = print_if print_end t.end in
    let sentences = each print_sentence t.sentences in
    let head = heading (word.Procedure ∷ word.Division ∷ []) in
    let body = short_right head (sentences ++ (paragraphs ++ end)) (short_right (print_front t.front) (head ++ (sentences ++ (paragraphs ++ end))) short) in (
      can_sentences s flags 1 t.sentences (short_left sentences (paragraphs ++ end) body) (silent_left x.found (y.found ++ []) silent),
      can_paras s flags x.next t.paragraphs (short_left paragraphs end (short_right sentences (paragraphs ++ end) body)) (silent_left y.found [] (silent_right x.found (y.found ++ []) silent)),
    )
