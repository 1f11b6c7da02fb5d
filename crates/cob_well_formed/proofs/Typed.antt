-- What is typed without a broken rule is well-formed, with numbers that go up.
use Rattle.std.proofs.Common.{ℕ, suc, Bool, List, [], ◌∷◌, ◌++◌, Option, Some, None, refl}
use Rattle.std.specs.Prelude.{slice_get}
use Rattle.std.specs.List.{AllByRecursion}
use Rattle.cob_tree.specs.Cues.{Cue}
use Rattle.cob_tree.specs.Stmt as tree
use Rattle.cob_tree.specs.Shaped.{ShapedStmts, ShapedPhrase, ShapedTail, ShapedWhens, ShapedVerb, ShapedParagraph, Shaped}
use Rattle.cob_data.specs.declared.end.Rule.{Rule}
use Rattle.cob_data.specs.declared.layout.Flag.{Flag}
use Rattle.cob_data.specs.declared.layout.Layout.{Layout}
use Rattle.cob_program.specs.Act.{Stmts, MkStmt, no_stmts, more_stmts, Phrase, left_out, given, Program}
use Rattle.cob_graph.specs.WellFormed.{IsWellFormed}
use Rattle.cob_typed_conds.specs.declared.selections.Looked.{Looked}
use Rattle.cob_typed_exprs.specs.Judged.{Judged}
use Rattle.cob_typed_exprs.specs.Scope.{Scope}
use Rattle.cob_typed_conds.specs.Selections.{looked_at}
use Rattle.cob_typed.specs.Statements.{Numbered, found_on, stmts_if, typed_choices, typed_stmts, typed_phrase, typed_arith, typed_whens, typed_verb}
use Rattle.cob_typed_verbs.specs.Verbs.{set_flag, set_if}
use Rattle.cob_typed_verbs.specs.Arithmetic.{Worked, add_to, add_giving, subtract_from, subtract_giving, multiply_by, multiply_giving, divide_into, divide_giving, compute}
use Rattle.cob_typed.specs.Typing.{scope_of, joined, typed_sentences, typed_paras, typed_all, typed, clashes, IsTyped}
use Rattle.cob_interp.specs.Able.{HasItsFiles}
use Rattle.cob_well_formed.proofs.Numbers.{Good, GoodPhrase, GoodAct, GoodWhens, GoodParas, is_well_formed, has_its_files}
use Rattle.cob_well_formed.proofs.Conditions.{begins_cond, whole_turns}
use Rattle.cob_well_formed.proofs.Named.{named_verb}
use Rattle.cob_well_formed.proofs.Files.{IsClean, clean_left, clean_right, some_files, some_openings, some_record}

abbrev Found : Type 0
Found = List (Rule × ℕ)

good_if : (l : Layout) (lo hi : ℕ) (x : Phrase) → GoodPhrase l lo hi x → Good l lo hi (stmts_if x)
good_if l lo hi left_out good = good
good_if l lo hi (given ss) good = good

good_joined : (l : Layout) (lo mid hi : ℕ) (xs ys : Stmts) → Good l lo mid xs → Good l mid hi ys → Good l lo hi (joined xs ys)
good_joined l lo mid hi no_stmts ys first second = rw first second
good_joined l lo mid hi (more_stmts (MkStmt n line a) xs) ys first second =
    (first.0, first.1, first.2, good_joined l first.0 mid hi xs ys first.3 second, first.4)

good_set : (l : Layout) (n : ℕ) (o : Option Flag) → GoodAct l n n (set_flag o)
good_set l n None = refl
good_set l n (Some f) = refl

module _ (s : Scope) where
  abbrev l : Layout
  l = s.layout

  good_set_if : (n : ℕ) (o : Option ℕ) → GoodAct l n n (set_if s o)
  good_set_if n None = refl
  good_set_if n (Some place) = good_set l n (slice_get s.layout.flags place)

  abbrev IsGood : ℕ → Numbered Stmts → Type 0
  IsGood n x = Good l n x.next x.value

  -- parts of what was found
  head : (a b : Found) → IsClean (a ++ b) → IsClean a
  head a b clean = clean_left a b clean

  mutual
    good_stmts : (n : ℕ) (ss : tree.Stmts) → ShapedStmts ss → IsClean (typed_stmts s n ss).found → IsGood n (typed_stmts s n ss)
    good_stmts n tree.no_stmts shaped clean = absurd shaped
    good_stmts n (tree.more_stmts (tree.MkStmt line v) tree.no_stmts) shaped clean =
        let x = typed_verb s line (suc n) v in
        let here = clean_left x.found [] (clean_left (x.found ++ []) [] clean) in
        (x.next, refl, good_verb line (suc n) v shaped here, refl, named_verb s line (suc n) v here)
    good_stmts n (tree.more_stmts (tree.MkStmt line v) (tree.more_stmts u us)) shaped clean =
        let x = typed_verb s line (suc n) v in
        let later = typed_stmts s x.next (tree.more_stmts u us) in
        let here = clean_left x.found [] (clean_left (x.found ++ []) (later.found ++ []) clean) in (
          x.next,
          refl,
          good_verb line (suc n) v shaped.0 here,
          good_stmts x.next (tree.more_stmts u us) shaped.2 (clean_left later.found [] (clean_right (x.found ++ []) (later.found ++ []) clean)),
          named_verb s line (suc n) v here,
        )

    good_phrase : (n : ℕ) (x : tree.Phrase) (before : Bool) → ShapedPhrase x before → IsClean (typed_phrase s n x).found → GoodPhrase l n (typed_phrase s n x).next (typed_phrase s n x).value
    good_phrase n tree.left_out before shaped clean = refl
    good_phrase n (tree.given ss) before shaped clean = good_stmts n ss shaped.0 (clean_left (typed_stmts s n ss).found [] clean)

    good_arith : (line n : ℕ) (w : Judged Worked) (x : tree.Tail) (end : Cue) → ShapedTail x end → IsClean (typed_arith s line n w x).found → GoodAct l n (typed_arith s line n w x).next (typed_arith s line n w x).value
    good_arith line n w (tree.MkTail size not_size ended) end shaped clean =
        let a = typed_phrase s n size in
        let b = typed_phrase s a.next not_size in
        let both_ = clean_right (found_on line w.broken) (a.found ++ (b.found ++ [])) clean in (
          a.next,
          good_phrase n size _ shaped.0 (clean_left a.found (b.found ++ []) both_),
          good_if l a.next b.next b.value (good_phrase a.next not_size _ shaped.1 (clean_left b.found [] (clean_right a.found (b.found ++ []) both_))),
        )

    good_whens : (line n : ℕ) (subject : Looked) (ws : tree.Whens) → ShapedWhens ws → IsClean (typed_whens s line n subject ws).found → GoodWhens l n (typed_whens s line n subject ws).next (typed_whens s line n subject ws).value
    good_whens line n subject tree.no_whens shaped clean = absurd shaped
    good_whens line n subject (tree.more_whens (tree.MkWhen choices body) tree.no_whens) shaped clean =
        let c = typed_choices s line n subject choices in
        let x = typed_stmts s n body in
        let rest = clean_right c.found (x.found ++ ([] ++ [])) clean in
        (x.next, good_stmts n body shaped.2 (clean_left x.found ([] ++ []) rest), refl)
    good_whens line n subject (tree.more_whens (tree.MkWhen choices body) (tree.more_whens w ws)) shaped clean =
        let c = typed_choices s line n subject choices in
        let x = typed_stmts s n body in
        let later = typed_whens s line x.next subject (tree.more_whens w ws) in
        let rest = clean_right c.found (x.found ++ (later.found ++ [])) clean in (
          x.next,
          good_stmts n body shaped.0.2 (clean_left x.found (later.found ++ []) rest),
          good_whens line x.next subject (tree.more_whens w ws) shaped.2 (clean_left later.found [] (clean_right x.found (later.found ++ []) rest)),
        )

    good_verb : (line n : ℕ) (v : tree.Verb) → ShapedVerb v → IsClean (typed_verb s line n v).found → GoodAct l n (typed_verb s line n v).next (typed_verb s line n v).value
    good_verb line n (tree.move from to) shaped clean = refl
    good_verb line n (tree.set text) shaped clean = good_set_if n _
    good_verb line n (tree.display operands) shaped clean = refl
    good_verb line n (tree.add_to addends to tail) shaped clean = good_arith line n (add_to s addends to) tail _ shaped.2 clean
    good_verb line n (tree.add_giving addends to giving tail) shaped clean = good_arith line n (add_giving s addends to giving) tail _ shaped.2 clean
    good_verb line n (tree.subtract_from less from tail) shaped clean = good_arith line n (subtract_from s less from) tail _ shaped.2 clean
    good_verb line n (tree.subtract_giving less from giving tail) shaped clean = good_arith line n (subtract_giving s less from giving) tail _ shaped.2 clean
    good_verb line n (tree.multiply_by factor by tail) shaped clean = good_arith line n (multiply_by s factor by) tail _ shaped.1 clean
    good_verb line n (tree.multiply_giving factor by giving tail) shaped clean = good_arith line n (multiply_giving s factor by giving) tail _ shaped.1 clean
    good_verb line n (tree.divide_into divisor into tail) shaped clean = good_arith line n (divide_into s divisor into) tail _ shaped.1 clean
    good_verb line n (tree.divide_giving first way second giving remainder tail) shaped clean = good_arith line n (divide_giving s first way second giving remainder) tail _ shaped.1 clean
    good_verb line n (tree.compute to value tail) shaped clean = good_arith line n (compute s to value) tail _ shaped.1 clean
    good_verb line n (tree.if_ test ss other ended) shaped clean =
        let x = typed_stmts s n ss in
        let y = typed_phrase s x.next other in
        let rest = clean_right _ (x.found ++ (y.found ++ [])) clean in (
          x.next,
          begins_cond s test,
          good_stmts n ss shaped.1 (clean_left x.found (y.found ++ []) rest),
          good_if l x.next y.next y.value (good_phrase x.next other _ shaped.2 (clean_left y.found [] (clean_right x.found (y.found ++ []) rest))),
        )
    good_verb line n (tree.evaluate subject whens other ended) shaped clean =
        let looked = looked_at s subject in
        let x = typed_whens s line n looked.value whens in
        let y = typed_phrase s x.next other in
        let rest = clean_right (found_on line looked.broken) (x.found ++ (y.found ++ [])) clean in (
          x.next,
          good_whens line n looked.value whens shaped.0 (clean_left x.found (y.found ++ []) rest),
          good_if l x.next y.next y.value (good_phrase x.next other _ shaped.1 (clean_left y.found [] (clean_right x.found (y.found ++ []) rest))),
        )
    good_verb line n (tree.perform_range first thru turns) shaped clean = (whole_turns s turns, refl)
    good_verb line n (tree.perform_inline turns body) shaped clean = (whole_turns s turns, good_stmts n body shaped.1 (clean_left (typed_stmts s n body).found [] (clean_right _ ((typed_stmts s n body).found ++ []) clean)))
    good_verb line n (tree.go text) shaped clean = refl
    good_verb line n tree.exit shaped clean = refl
    good_verb line n tree.continue shaped clean = refl
    good_verb line n tree.stop_run shaped clean = refl
    good_verb line n (tree.open_ files) shaped clean = (some_openings s line files shaped.0 shaped.1 clean, refl)
    good_verb line n (tree.close names) shaped clean = (some_files s line names shaped clean, refl)
    good_verb line n (tree.read file into end not_end ended) shaped clean =
        let a = typed_phrase s n end in
        let b = typed_phrase s a.next not_end in
        let rest = clean_right _ (a.found ++ (b.found ++ [])) clean in (
          a.next,
          good_phrase n end _ shaped.0 (clean_left a.found (b.found ++ []) rest),
          good_if l a.next b.next b.value (good_phrase a.next not_end _ shaped.1 (clean_left b.found [] (clean_right a.found (b.found ++ []) rest))),
        )
    good_verb line n (tree.write rec_ from ended) shaped clean = (some_record s line rec_ (clean_left _ _ clean), refl)

  good_sentences : (n : ℕ) (ss : List tree.Stmts) → AllByRecursion ShapedStmts ss → IsClean (typed_sentences s n ss).found → IsGood n (typed_sentences s n ss)
  good_sentences n [] shaped clean = refl
  good_sentences n (ss ∷ more) shaped clean =
      let x = typed_stmts s n ss in
      let y = typed_sentences s x.next more in
      good_joined l n x.next y.next x.value y.value (good_stmts n ss shaped.0 (clean_left x.found (y.found ++ []) clean))
      (good_sentences x.next more shaped.1 (clean_left y.found [] (clean_right x.found (y.found ++ []) clean)))

  good_paras : (n : ℕ) (ps : List tree.Paragraph) → AllByRecursion ShapedParagraph ps → IsClean (typed_paras s n ps).found → GoodParas l n (typed_paras s n ps).next (typed_paras s n ps).value
  good_paras n [] shaped clean = refl
  good_paras n (p ∷ ps) shaped clean =
      let x = typed_sentences s n p.sentences in
      let y = typed_paras s x.next ps in (
        x.next,
        good_sentences n p.sentences shaped.0 (clean_left x.found (y.found ++ []) clean),
        good_paras x.next ps shaped.1 (clean_left y.found [] (clean_right x.found (y.found ++ []) clean)),
      )

-- all of a program, with numbers from 1 on
record IsGoodProgram (p : Program) : Type 0 where
  pub hi : ℕ
  pub good : GoodParas p.layout 1 hi p.paras

good_program : (l : Layout) (t : tree.Tree) → Shaped t → IsTyped l t → IsGoodProgram (typed l t)
good_program l t shaped kept_ =
    let s = scope_of l t in
    let x = typed_sentences s 1 t.sentences in
    let y = typed_paras s x.next t.paragraphs in
    let clean : IsClean ((typed_all l t).found ++ clashes [] t.paragraphs) = record { names = kept_.0; files = kept_.1.1.1.1.1.1.1.1.0 } in
    let all = clean_left (x.found ++ (y.found ++ [])) (clashes [] t.paragraphs) clean in
    record {
      hi = y.next;
      good = (
        x.next,
        good_sentences s 1 t.sentences shaped.sentences (clean_left x.found (y.found ++ []) all),
        good_paras s x.next t.paragraphs shaped.paragraphs (clean_left y.found [] (clean_right x.found (y.found ++ []) all)),
      );
    }

pub programs_are_well_formed : (l : Layout) (t : tree.Tree) → Shaped t → IsTyped l t → IsWellFormed (typed l t)
programs_are_well_formed l t shaped kept_ =
    let it = good_program l t shaped kept_ in is_well_formed (typed l t) 1 it.hi it.good

pub programs_have_their_files : (l : Layout) (t : tree.Tree) → Shaped t → IsTyped l t → HasItsFiles (typed l t)
programs_have_their_files l t shaped kept_ =
    let it = good_program l t shaped kept_ in has_its_files (typed l t) 1 it.hi it.good
