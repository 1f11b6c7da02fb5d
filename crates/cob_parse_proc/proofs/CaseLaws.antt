-- The laws of WHEN, WHEN OTHER and of all that stands in EVALUATE.
use Rattle.std.proofs.Common.{◌≡◌, ℕ, suc, ◌<◌, ◌≤◌, inl, inr, ⊎_elim, not, Bool, true, false, List, [], ◌∷◌, ◌++◌, length, length-append, Option, Some, None, is_some, Result, Ok, Err, refl, sym, ap, subst, ◌∙◌, arith}
use Rattle.cob_tree.specs.declared.keyword.Keyword.{Keyword}
use Rattle.cob_tree.specs.declared.keyword.Keyword.TheVariants as word
use Rattle.cob_tree.specs.Symbols.{Key, Sign}
use Rattle.cob_tree.specs.Items.{Item, each}
use Rattle.cob_tree.specs.Cues.{Cue, is}
use Rattle.cob_tree.specs.Cues as cue
use Rattle.cob_tree.specs.Stmt.{Sel, any, Stmts, When, MkWhen}
use Rattle.cob_tree.specs.PrintStmt.{print_sel, print_choice, print_stmts}
use Rattle.reading.specs.Readers.{Fault, Stop, Deep, left_of, Reader, ◌>>=◌, behind_on, behind, both_behind_on, branch, seen, must, need}
use Rattle.reading.specs.Printing.{Matches, Opens, begins}
use Rattle.reading.specs.Law.{Syntax, Law, Fails}
use Rattle.reading.proofs.Results.{bind_err, fault_before}
use Rattle.reading.proofs.Texts.{both_true, next_none}
use Rattle.reading.proofs.Seen.{seen_law}
use Rattle.reading.proofs.Starts.{Begins, Starts, OneToken, starts_by_one, enters}
use Rattle.reading.proofs.Tail.{tail_syntax, tail_law}
use Rattle.reading.proofs.Many.{is_given, many_from_syntax, many_from_tail}
use Rattle.reading.proofs.Opt.{when, when_law}
use Rattle.reading.proofs.Choose.{choose_syntax, Tells, choose_law}
use Rattle.reading.proofs.Must.{must_joint, must_law}
use Rattle.reading.proofs.Follow.{Joint}
use Rattle.cob_parse_expr.specs.LexemeClasses.{the}
use Rattle.cob_parse_data.proofs.ClassLaws as classes
use Rattle.cob_parse_verb.specs.Procedure.{procedure}
use Rattle.cob_parse_verb.specs.Turning.{choices_at}
use Rattle.cob_parse_verb.specs.Syntaxes.{choices_syntax}
use Rattle.cob_parse_proc.specs.Reading.{here, one_word, last, may_go, make_when, when_with, other_with, other_stands, Case, case_with, is_other, more_cases, whens_with}
use Rattle.cob_parse_proc.specs.Bare.{when_takes}
use Rattle.cob_parse_proc.proofs.Words.{one_key, when_told}
use Rattle.cob_parse_proc.proofs.Marks.{only, not_taken}
use Rattle.cob_parse_proc.proofs.Syntaxes.{stmts_syntax, when_syntax, led_syntax, stmts_begin, Known}
use Rattle.cob_parse_proc.proofs.WhenLaws.{start_told, when_view, choices_end, led_law, sel_first, first_stays, no_other, other_told, one_alone}

abbrev pub other_words : List Keyword
other_words = word.When ∷ word.Other ∷ []

abbrev pub other_syntax : ℕ → Syntax Item Cue Stmts
other_syntax d = led_syntax d other_words

abbrev pub case_syntax : ℕ → Syntax Item Cue Case
case_syntax d = choose_syntax (other_syntax d) (when_syntax d)

-- none stands behind WHEN OTHER
abbrev pub open_cases : ℕ → Bool → Syntax Item Cue Case
open_cases d ended = when (ended ≡ false) (case_syntax d)

abbrev pub cases_syntax : ℕ → Syntax Item Cue (List Case)
cases_syntax d = many_from_syntax more_cases (open_cases d) is_other cue.Whens false

abbrev pub whens_syntax : ℕ → Syntax Item Cue (When × List Case)
whens_syntax d = tail_syntax (when_syntax d) (λ w. cases_syntax d) is_given cue.Whens

-- ---- each begins with WHEN

is_when : (d : ℕ) (t : Sign) → t.symbol ≡ Key word.When → (ts : List Sign) → begins procedure (is cue.Whens) (t ∷ ts) ≡ true
is_when d t e ts = when_told (t ∷ ts) ∙ go (the word.When t.symbol) (ap (the word.When) e)
  where
    go : (o : Option (Unit {0})) → o ≡ the word.When (Key word.When) → is_some (behind_on o ts) ≡ true
    go None e0 = absurd cc
    go (Some x) e0 = refl

pub when_begins : (d : ℕ) → Begins procedure (is cue.Whens) (when_syntax d)
when_begins d (MkWhen [] body) text rest good spells = absurd good.0
when_begins d (MkWhen (s ∷ ss) body) [] rest good spells = absurd spells
when_begins d (MkWhen (s ∷ ss) body) (t ∷ text) rest good spells = is_when d t spells.0.symbol (text ++ rest)

case_begins : (d : ℕ) → Begins procedure (is cue.Whens) (case_syntax d)
case_begins d (inl ss) [] rest good spells = absurd spells
case_begins d (inl ss) (t ∷ text) rest good spells = is_when d t spells.0.symbol (text ++ rest)
case_begins d (inr w) text rest good spells = when_begins d w text rest good spells

pub cases_one : (ended : Bool) → OneToken procedure (more_cases ended)
cases_one true = not_taken (more_cases true) refl refl refl refl
cases_one false = not_taken (more_cases false) refl refl refl refl

pub cases_starts : (d : ℕ) (r : Reader Sign Case) (ended : Bool) → Starts procedure (more_cases ended) r (open_cases d ended)
cases_starts d r ended = starts_by_one procedure (more_cases ended) (all ended) (cases_one ended)
  where
    all : (e : Bool) → Begins procedure (more_cases e) (open_cases d e)
    all true x text rest good spells = let never : true ≡ false = good.1 in absurd cc
    all false x text rest good spells = case_begins d x text rest good.0 spells

still_open : (ended : Bool) (ts : List Sign) → begins procedure (more_cases ended) ts ≡ true → ended ≡ false
still_open false ts e = refl
still_open true ts e = let never : true ≡ false = sym e ∙ next_none procedure ts in absurd cc

pub whens_only : (ended : Bool) (p : Cue) → more_cases ended p ≡ true → p ≡ cue.Whens
whens_only ended p e = only cue.Whens p (both_true (not ended) (is cue.Whens p) e).1

module _ (K : Known) (d top room : ℕ) (low : d < top) (inner : Reader Sign Stmts) (LI : Law procedure inner (stmts_syntax d) top) (LC : Law procedure (choices_at room) (choices_syntax d) top) where
  pub when_with_law : Law procedure (when_with inner room) (when_syntax d) top
  when_with_law = seen_law (must_law LC LI (choices_end K d top low) (stmts_begin d) start_told) (when_view d)

  pub other_with_law : Law procedure (other_with inner) (other_syntax d) top
  other_with_law = led_law d top low _ (word.Other ∷ []) word.When (led_law d top low inner [] word.Other LI)

  -- ---- what tells them apart

  abbrev joint : Joint procedure top (choices_syntax d) (λ xs. need (here cue.Starts) inner (may_go ((choices_syntax d).takes xs))) (λ xs. stmts_syntax d) (λ xs ss. (choices_syntax d).Good xs × (stmts_syntax d).Good ss) (λ xs ss. (stmts_syntax d).takes ss)
  joint = must_joint LC LI (choices_end K d top low) (stmts_begin d) start_told

  abbrev any_sign : Sign
  any_sign = record { symbol = Key word.Any; line = 1 }

  -- choices read WHEN
  opens_none : (xs : List Sel) (left : List Sign) (after : List Item) → (choices_syntax d).Good xs → (choices_syntax d).print xs ≡ after → Opens procedure top left after → ⊥
  opens_none [] left after good e o = absurd good.0
  opens_none (s ∷ ss) left after good e o = go left (subst (λ (is : List Item). Opens procedure top left is) (sym e) o)
    where
      go : (us : List Sign) → Opens procedure top us ((choices_syntax d).print (s ∷ ss)) → ⊥
      go [] o0 = o0
      go (u ∷ us) o0 = omega (arith, low, o0.1)

  choices_enter : (t : Sign) (r : List Sign) (f : Fault) → t.symbol ≡ Key word.When → choices_at room (t ∷ r) ≡ Err f → left_of f ≡ suc (length r) → ⊥
  choices_enter t r (Stop n) there e at = LC.firm [] r (any_sign ∷ []) (t ∷ any_sign ∷ []) [] t (any ∷ []) (e ∙ ap (λ (m : ℕ). Err (Stop m)) at) (record { symbol = there; line = tt }, (record { symbol = refl; line = tt }, tt)) (tt, (tt, tt)) (low, (low, tt)) refl refl
  choices_enter t r (Deep n) there e at = go h.read h.before h.parts h.spells h.text
    where
      h : Fails procedure (choices_syntax d) top (t ∷ r) (Deep n)
      h = LC.fails (t ∷ r) (Deep n) e

      go : (read : List Sign) (before : List Item) → t ∷ r ≡ read ++ h.left → Matches procedure before read → (choices_syntax d).print h.tree ≡ before ++ h.after → ⊥
      go [] [] parts m text = opens_none h.tree h.left h.after h.good text h.at.1
      go [] (i ∷ before) parts m text = absurd m
      go (u ∷ read) before parts m text = omega (arith, at, h.at.0, ap length parts, length-append read h.left)

  when_enters : (t : Sign) (r : List Sign) (f : Fault) → t.symbol ≡ Key word.When → when_with inner room (t ∷ r) ≡ Err f → left_of f ≡ suc (length r) → ⊥
  when_enters t r f there e at = ⊎_elim (λ stop. choices_enter t r f there stop at) behind_choices (bind_err (choices_at room (t ∷ r)) then_list f (fault_before (must (choices_at room) (λ xs. may_go ((choices_syntax d).takes xs)) (here cue.Starts) inner (t ∷ r)) (λ x. (make_when x.0, x.1)) f e))
    where
      then_list : List Sel × List Sign → Result ((List Sel × Stmts) × List Sign) Fault
      then_list a = need (here cue.Starts) inner (may_go ((choices_syntax d).takes a.0)) a.1 >>= λ b. Ok ((a.0, b.0), b.1)

      behind_choices : (p : List Sel × List Sign) × (choices_at room (t ∷ r) ≡ Ok p) × (then_list p ≡ Err f) → ⊥
      behind_choices w = go (LC.sound (t ∷ r) w.0 w.1).text (LC.sound (t ∷ r) w.0 w.1).parts w.0.0 (LC.sound (t ∷ r) w.0 w.1).good (LC.sound (t ∷ r) w.0 w.1).spells
        where
          left : left_of f ≤ length w.0.1
          left = (joint.reads w.0.0 (LC.sound (t ∷ r) w.0 w.1).good).within w.0.1 f (fault_before (need (here cue.Starts) inner (may_go ((choices_syntax d).takes w.0.0)) w.0.1) (λ b. ((w.0.0, b.0), b.1)) f w.2)

          go : (text : List Sign) → t ∷ r ≡ text ++ w.0.1 → (xs : List Sel) → (choices_syntax d).Good xs → Matches procedure ((choices_syntax d).print xs) text → ⊥
          go text parts [] good spells = absurd good.0
          go [] parts (s ∷ ss) good spells = absurd spells
          go (u ∷ text) parts (s ∷ ss) good spells = omega (arith, at, left, ap length parts, length-append text w.0.1)

  first_told : (ss : Stmts) (text rest : List Sign) → (other_syntax d).Good ss → Matches procedure ((other_syntax d).print ss) text → other_stands (text ++ rest) ≡ true
  first_told ss [] rest good spells = absurd spells
  first_told ss (t ∷ []) rest good spells = absurd spells.1
  first_told ss (t ∷ u ∷ text) rest good spells = rw ((one_key d word.When).reads tt t tt spells.0, (one_key d word.Other).reads tt u tt spells.1.0) refl

  second_told : (w : When) (text rest : List Sign) → (when_syntax d).Good w → Matches procedure ((when_syntax d).print w) text → other_stands (text ++ rest) ≡ false
  second_told (MkWhen [] body) text rest good spells = absurd good.0
  second_told (MkWhen (s ∷ ss) body) [] rest good spells = absurd spells
  second_told (MkWhen (s ∷ ss) body) (t ∷ text) rest good spells = go (the word.When t.symbol)
    where
      behind_it : is_some (behind (one_word word.Other) (text ++ rest)) ≡ false
      behind_it = no_other ((print_sel d s ++ each (print_choice d) ss) ++ print_stmts d body) text rest (first_stays (print_sel d s ++ each (print_choice d) ss) (print_stmts d body) (first_stays (print_sel d s) (each (print_choice d) ss) (sel_first d s))) spells.1

      go : (o : Option (Unit {0})) → is_some (both_behind_on o (one_word word.Other) (text ++ rest)) ≡ false
      go None = refl
      go (Some x) = behind_it

  -- both words stand
  both_words : (t u : Sign) (r : List Sign) → other_stands (t ∷ u ∷ r) ≡ true → (one_word word.When t ≡ Some tt) × (one_word word.Other u ≡ Some tt)
  both_words t u r e = first (the word.When t.symbol) refl e
    where
      second : (p : Option (Unit {0})) → the word.Other u.symbol ≡ p → is_some (behind_on p r) ≡ true → one_word word.Other u ≡ Some tt
      second None ep e0 = absurd cc
      second (Some y) ep e0 = ep

      first : (o : Option (Unit {0})) → the word.When t.symbol ≡ o → is_some (both_behind_on o (one_word word.Other) (u ∷ r)) ≡ true → (one_word word.When t ≡ Some tt) × (one_word word.Other u ≡ Some tt)
      first None eo e0 = absurd cc
      first (Some x) eo e0 = (eo, second (the word.Other u.symbol) refl e0)

  pub case_tells : Tells procedure other_stands (other_with inner) (when_with inner room) (other_syntax d) (when_syntax d)
  case_tells = record { first = λ x text rest good spells next. first_told x text rest good spells; second = λ y text rest good spells next. second_told y text rest good spells; decided = decided; excluded = excluded }
    where
      decided : (q r z : List Sign) (t : Sign) (f : Fault) → other_stands (q ++ t ∷ r) ≡ true → other_with inner (q ++ t ∷ r) ≡ Err f → left_of f ≡ suc (length r) → other_stands (q ++ t ∷ z) ≡ true
      decided [] [] z t f e stop at = let never : true ≡ false = sym e ∙ one_alone t in absurd cc
      decided [] (u ∷ r) z t f e stop at =
          let w = both_words t u r e in
          let inside = enters (one_word word.When) (λ x. seen last (branch (one_word word.Other) (λ y. inner))) t (u ∷ r) tt f (led_law d top low inner [] word.Other LI) w.0 (fault_before (branch (one_word word.When) (λ x. seen last (branch (one_word word.Other) (λ y. inner))) (t ∷ u ∷ r)) (λ x. (last x.0, x.1)) f stop) in
          let deeper = enters (one_word word.Other) (λ y. inner) u r tt f LI w.1 (fault_before (branch (one_word word.Other) (λ y. inner) (u ∷ r)) (λ x. (last x.0, x.1)) f inside.0) in
          absurd (omega (arith, at, deeper.1))
      decided (u ∷ []) r z t f e stop at = other_told u t z r ∙ e
      decided (u ∷ v ∷ q) r z t f e stop at = other_told u v (q ++ t ∷ z) (q ++ t ∷ r) ∙ e

      excluded : (q r z : List Sign) (t : Sign) (f : Fault) → other_stands (q ++ t ∷ r) ≡ false → when_with inner room (q ++ t ∷ r) ≡ Err f → left_of f ≡ suc (length r) → other_stands (q ++ t ∷ z) ≡ false
      excluded [] r z t f e stop at = go (the word.When t.symbol) refl
        where
          go : (o : Option (Unit {0})) → the word.When t.symbol ≡ o → is_some (both_behind_on o (one_word word.Other) z) ≡ false
          go None eo = refl
          go (Some x) eo = absurd (when_enters t r f ((classes.one_word word.When).only t.symbol x eo) stop at)
      excluded (u ∷ []) r z t f e stop at = other_told u t z r ∙ e
      excluded (u ∷ v ∷ q) r z t f e stop at = other_told u v (q ++ t ∷ z) (q ++ t ∷ r) ∙ e

  pub case_law : Law procedure (case_with inner room) (case_syntax d) top
  case_law = choose_law other_with_law when_with_law case_tells

  pub cases_alike : (ended : Bool) (x : Case) (p : Cue) → (open_cases d ended).Good x → more_cases (is_other ended x) p ≡ true → (open_cases d ended).takes x p ≡ (open_cases d ended).takes x cue.Whens
  cases_alike ended x p good e = ap ((case_syntax d).takes x) (whens_only (is_other ended x) p e)

  pub cases_laws : (ended : Bool) (ts : List Sign) → begins procedure (more_cases ended) ts ≡ true → Law procedure (case_with inner room) (open_cases d ended) top
  cases_laws ended ts e = when_law case_law (still_open ended ts e)

  pub whens_law : Law procedure (whens_with inner room) (whens_syntax d) top
  whens_law = tail_law when_with_law cue.Whens (λ w p good e. ap (when_takes w) (whens_only false p e)) (λ w. many_from_tail more_cases is_other cue.Whens cases_alike (λ ended. cases_starts d (case_with inner room) ended) cases_laws false)
