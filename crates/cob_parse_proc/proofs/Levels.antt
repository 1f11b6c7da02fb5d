-- A statement's head, what stands inside it before its phrases, the phrases, and the word that ends it, each behind what
-- was read before. d counts the statement itself.
use Rattle.std.proofs.Common.{◌≡◌, ℕ, ◌<◌, Bool, true, false, List, [], ◌∷◌, ◌++◌, Option, Some, None, is_some, refl, sym, ap, ◌∙◌, append_assoc}
use Rattle.cob_tree.specs.declared.keyword.Keyword.{Keyword}
use Rattle.cob_tree.specs.declared.keyword.Keyword.TheVariants as word
use Rattle.cob_tree.specs.Symbols.{Symbol, Key, Sign}
use Rattle.cob_tree.specs.Items.{Item, key}
use Rattle.cob_tree.specs.Cues.{Cue, is, Size, NotSize, AtEnd, NotAtEnd, Else, EndAdd, EndSubtract, EndMultiply, EndDivide, EndCompute, EndIf, EndEvaluate, EndRead}
use Rattle.cob_tree.specs.Cues as cue
use Rattle.cob_tree.specs.declared.stmt.Subject.{Subject}
use Rattle.cob_tree.specs.Cond.{Cond}
use Rattle.cob_tree.specs.Stmt.{Loop, MkStmt, continue, Stmts, no_stmts, more_stmts, When, MkWhen}
use Rattle.cob_tree.specs.PrintStmt.{print_stmts}
use Rattle.cob_tree.specs.Shaped.{ShapedStmts}
use Rattle.reading.specs.Readers.{Reader, lead, seen, behind, optional, stands}
use Rattle.reading.specs.Printing.{Matches, Below, peek_on, on_mark, Next}
use Rattle.reading.specs.Law.{Syntax, Law}
use Rattle.reading.proofs.Texts.{Always, below_right}
use Rattle.reading.proofs.Lead.{nothing_syntax, nothing_law, lead_syntax, lead_law}
use Rattle.reading.proofs.Seen.{View, seen_law}
use Rattle.reading.proofs.Starts.{Begins, OneToken, one_decides, begins_first}
use Rattle.reading.proofs.Tail.{Tail}
use Rattle.reading.proofs.Many.{is_given}
use Rattle.reading.proofs.Optional.{optional_syntax}
use Rattle.reading.proofs.Opt.{Opening, opener_of, optional_tail}
use Rattle.reading.proofs.Grows.{Samples, samples_one, samples_opening, grows_optional, grows_seen, grows_dependent, grows_choose, grows_tail, grows_many_from, Grows}
use Rattle.reading.proofs.Must.{Ends, ends_by, closed_all}
use Rattle.cob_parse_expr.specs.LexemeClasses.{the}
use Rattle.cob_parse_verb.specs.declared.word.Begin.{Begin}
use Rattle.cob_parse_verb.specs.Procedure.{procedure, token_front}
use Rattle.cob_parse_verb.specs.Heads as heads
use Rattle.cob_parse_verb.specs.Heads.{Arithmetic, Head, done, arithmetic, if_head, evaluate_head, perform_head, read_head, GoodStarted, takes_behind, end_word, end_cue}
use Rattle.cob_parse_verb.specs.Reading.{head_at}
use Rattle.cob_parse_verb.specs.Turning.{choices_at}
use Rattle.cob_parse_verb.specs.Syntaxes.{head_syntax, choices_syntax}
use Rattle.cob_parse_proc.specs.Reading.{here, one_word, nots, may_go, Case, is_other, more_cases, whens_with, Inside, no_inside, list_inside, whens_inside, make_whens, inside_with, error_with, first_with, second_with, ended_with, given_word, end_with, Begun, begun_with, one_phrase, two_phrases, Parts, parts_with}
use Rattle.cob_parse_proc.specs.Bare.{list_takes, when_takes}
use Rattle.cob_parse_proc.proofs.Mixed.{Style, nothing as no_style, phrase, needed, mixed_syntax, Part, mixed_law, mixed_grows}
use Rattle.cob_parse_proc.proofs.Words.{one_key, size_opening, not_size_opening, end_opening, not_end_opening, else_opening, ends_opening, end_if_opening, end_evaluate_opening, end_read_opening}
use Rattle.cob_parse_proc.proofs.Marks.{only, free_next, not_taken, not_seconds, shown_by_not}
use Rattle.cob_parse_proc.proofs.Syntaxes.{stmts_syntax, when_syntax, behind_words, led_syntax, stmts_begin, Known}
use Rattle.cob_parse_proc.proofs.WhenLaws.{start_told, when_view, led_law}
use Rattle.cob_parse_proc.proofs.CaseLaws.{other_words, case_syntax, open_cases, cases_syntax, cases_one, whens_only, whens_syntax, whens_law, when_begins}

-- ---- inside

abbrev pub inside_good : ℕ → Head → Inside → Type 0
inside_good d (done v) no_inside = Unit {0}
inside_good d (arithmetic a) no_inside = Unit {0}
inside_good d (if_head c) (list_inside ss) = ShapedStmts ss
inside_good d (evaluate_head s) (whens_inside w cs) = (whens_syntax d).Good (w, cs)
inside_good d (perform_head turns) (list_inside ss) = ShapedStmts ss
inside_good d (read_head file into) no_inside = Unit {0}
inside_good d _ _ = ⊥

abbrev pub inside_print : ℕ → Inside → List Item
inside_print d no_inside = []
inside_print d (list_inside ss) = print_stmts d ss
inside_print d (whens_inside w cs) = (whens_syntax d).print (w, cs)

abbrev pub inside_on : ℕ → Inside → Cue → Bool
inside_on d no_inside p = false
inside_on d (list_inside ss) p = list_takes ss p
inside_on d (whens_inside w cs) p = (whens_syntax d).takes (w, cs) p

abbrev pub inside_syntax : ℕ → Head → Syntax Item Cue Inside
inside_syntax d h = record { Good = inside_good d h; print = inside_print d; takes = inside_on d }

abbrev pub inside_style : Head → Style Cue
inside_style (done v) = no_style
inside_style (arithmetic a) = no_style
inside_style (if_head c) = needed
inside_style (evaluate_head s) = needed
inside_style (perform_head turns) = needed
inside_style (read_head file into) = no_style

abbrev pub never_given : Inside → Bool
never_given i = false

abbrev pub begun_syntax : ℕ → Syntax Item Cue Begun
begun_syntax d = mixed_syntax (head_syntax d) (λ x. inside_syntax d x.1) never_given (λ x. inside_style x.1)

-- ---- phrases

-- what isn't there
abbrev pub none_syntax : {A : Type 0} → Syntax Item Cue (Option A)
none_syntax = record { Good = λ o. o ≡ None; print = λ o. []; takes = λ o p. false }

abbrev pub error_words : List Keyword
error_words = word.Error ∷ []

abbrev pub first_syntax : ℕ → Head → Syntax Item Cue (Option Stmts)
first_syntax d (done v) = none_syntax
first_syntax d (arithmetic a) = optional_syntax (is Size) (key d word.Size ∷ []) (led_syntax d error_words)
first_syntax d (if_head c) = optional_syntax (is Else) (key d word.Else ∷ []) (stmts_syntax d)
first_syntax d (evaluate_head s) = none_syntax
first_syntax d (perform_head turns) = none_syntax
first_syntax d (read_head file into) = optional_syntax (is AtEnd) (key d word.End ∷ []) (stmts_syntax d)

abbrev pub first_style : Head → Style Cue
first_style (done v) = no_style
first_style (arithmetic a) = phrase Size
first_style (if_head c) = phrase Else
first_style (evaluate_head s) = no_style
first_style (perform_head turns) = no_style
first_style (read_head file into) = phrase AtEnd

abbrev pub one_syntax : ℕ → Syntax Item Cue (Begun × Option Stmts)
one_syntax d = mixed_syntax (begun_syntax d) (λ x. first_syntax d x.0.1) is_some (λ x. first_style x.0.1)

abbrev pub second_syntax : ℕ → Head → Syntax Item Cue (Option Stmts)
second_syntax d (done v) = none_syntax
second_syntax d (arithmetic a) = optional_syntax (is NotSize) (key d word.Not ∷ key d word.Size ∷ []) (led_syntax d error_words)
second_syntax d (if_head c) = none_syntax
second_syntax d (evaluate_head s) = none_syntax
second_syntax d (perform_head turns) = none_syntax
second_syntax d (read_head file into) = optional_syntax (is NotAtEnd) (key d word.Not ∷ key d word.End ∷ []) (stmts_syntax d)

abbrev pub second_style : Head → Style Cue
second_style (done v) = no_style
second_style (arithmetic a) = phrase NotSize
second_style (if_head c) = no_style
second_style (evaluate_head s) = no_style
second_style (perform_head turns) = no_style
second_style (read_head file into) = phrase NotAtEnd

abbrev pub two_syntax : ℕ → Syntax Item Cue ((Begun × Option Stmts) × Option Stmts)
two_syntax d = mixed_syntax (one_syntax d) (λ x. second_syntax d x.0.0.1) is_some (λ x. second_style x.0.0.1)

-- ---- the last word

abbrev pub closed_syntax : ℕ → Syntax Item Cue (Option (Unit {0}))
closed_syntax d = record { Good = λ o. o ≡ Some tt; print = λ o. key d word.EndPerform ∷ []; takes = λ o p. false }

abbrev pub ended_syntax : ℕ → Cue → Keyword → Syntax Item Cue (Option (Unit {0}))
ended_syntax d c k = optional_syntax (is c) (key d k ∷ []) nothing_syntax

abbrev pub end_syntax : ℕ → Head → Syntax Item Cue (Option (Unit {0}))
end_syntax d (done v) = none_syntax
end_syntax d (arithmetic a) = ended_syntax d (end_cue a) (end_word a)
end_syntax d (if_head c) = ended_syntax d EndIf word.EndIf
end_syntax d (evaluate_head s) = ended_syntax d EndEvaluate word.EndEvaluate
end_syntax d (perform_head turns) = closed_syntax d
end_syntax d (read_head file into) = ended_syntax d EndRead word.EndRead

abbrev pub end_style : Head → Style Cue
end_style (done v) = no_style
end_style (arithmetic a) = phrase (end_cue a)
end_style (if_head c) = phrase EndIf
end_style (evaluate_head s) = phrase EndEvaluate
end_style (perform_head turns) = needed
end_style (read_head file into) = phrase EndRead

abbrev pub parts_syntax : ℕ → Syntax Item Cue Parts
parts_syntax d = mixed_syntax (two_syntax d) (λ x. end_syntax d x.0.0.0.1) is_some (λ x. end_style x.0.0.0.1)

-- ---- END-PERFORM

abbrev pub to_unit : Option (Unit {0}) → Unit {0}
to_unit o = tt

pub closed_view : (d : ℕ) → View (lead_syntax Always (λ (x : Unit {0}). key d word.EndPerform)) (closed_syntax d) given_word to_unit
closed_view d = record { back = λ y good. sym good; print = λ x good. refl; takes = λ x p good. refl; good = λ x good. refl; good_back = λ y good. tt }

perform_word : (takes : Cue → Bool) (t : Sign) (ts : List Sign) → t.symbol ≡ Key word.EndPerform → Next procedure takes (t ∷ ts)
perform_word takes t ts e = ap (λ (y : Symbol). on_mark procedure takes (peek_on procedure (token_front y) ts)) e

pub perform_free : (takes : Cue → Bool) (ts : List Sign) → stands (one_word word.EndPerform) ts ≡ true → Next procedure takes ts
perform_free takes [] e = refl
perform_free takes (t ∷ ts) e = go (the word.EndPerform t.symbol) refl e
  where
    go : (o : Option (Unit {0})) → the word.EndPerform t.symbol ≡ o → is_some o ≡ true → Next procedure takes (t ∷ ts)
    go None eo e0 = absurd cc
    go (Some x) eo e0 = perform_word takes t ts ((one_key 0 word.EndPerform).only t x eo).1.symbol

-- ---- parts of what stands inside

abbrev pub stmts_in : Inside → Stmts
stmts_in (list_inside ss) = ss
stmts_in _ = no_stmts

abbrev pub some_when : When
some_when = MkWhen [] no_stmts

abbrev pub whens_parts : Inside → When × List Case
whens_parts (whens_inside w cs) = (w, cs)
whens_parts _ = (some_when, [])

pub if_view : (d : ℕ) (c : Cond) → View (stmts_syntax d) (inside_syntax d (if_head c)) list_inside stmts_in
if_view d c = record { back = back; print = λ x g. refl; takes = λ x p g. refl; good = λ x g. g; good_back = good_back }
  where
    back : (y : Inside) → inside_good d (if_head c) y → list_inside (stmts_in y) ≡ y
    back (list_inside ss) g = refl
    back no_inside g = absurd g
    back (whens_inside w cs) g = absurd g

    good_back : (y : Inside) → inside_good d (if_head c) y → ShapedStmts (stmts_in y)
    good_back (list_inside ss) g = g
    good_back no_inside g = absurd g
    good_back (whens_inside w cs) g = absurd g

pub perform_view : (d : ℕ) (turns : Option Loop) → View (stmts_syntax d) (inside_syntax d (perform_head turns)) list_inside stmts_in
perform_view d turns = record { back = back; print = λ x g. refl; takes = λ x p g. refl; good = λ x g. g; good_back = good_back }
  where
    back : (y : Inside) → inside_good d (perform_head turns) y → list_inside (stmts_in y) ≡ y
    back (list_inside ss) g = refl
    back no_inside g = absurd g
    back (whens_inside w cs) g = absurd g

    good_back : (y : Inside) → inside_good d (perform_head turns) y → ShapedStmts (stmts_in y)
    good_back (list_inside ss) g = g
    good_back no_inside g = absurd g
    good_back (whens_inside w cs) g = absurd g

pub evaluate_view : (d : ℕ) (s : Subject) → View (whens_syntax d) (inside_syntax d (evaluate_head s)) make_whens whens_parts
evaluate_view d s = record { back = back; print = λ x g. refl; takes = λ x p g. refl; good = λ x g. g; good_back = good_back }
  where
    back : (y : Inside) → inside_good d (evaluate_head s) y → make_whens (whens_parts y) ≡ y
    back (whens_inside w cs) g = refl
    back no_inside g = absurd g
    back (list_inside ss) g = absurd g

    good_back : (y : Inside) → inside_good d (evaluate_head s) y → (whens_syntax d).Good (whens_parts y)
    good_back (whens_inside w cs) g = g
    good_back no_inside g = absurd g
    good_back (list_inside ss) g = absurd g

whens_told : (t : Sign) (y z : List Sign) → here cue.Whens (t ∷ y) ≡ here cue.Whens (t ∷ z)
whens_told = one_decides procedure (is cue.Whens) (not_taken (is cue.Whens) refl refl refl refl)

whens_begin : (d : ℕ) → Begins procedure (is cue.Whens) (whens_syntax d)
whens_begin d = begins_first procedure (is cue.Whens) (when_syntax d) (λ w. cases_syntax d) (whens_syntax d) (λ x good. good.0) (λ x. refl) (when_begins d)

-- ---- phrases, wherever they stand

pub phrase_tail : {B : Type 0} {R : Reader Sign B} {s : Syntax Item Cue B} {top : ℕ} {cut : List Sign → Option (List Sign)} (c : Cue) (its : List Item) → Opening procedure (is c) its cut → Below procedure top its → Law procedure R s top → Tail procedure (is c) is_some (optional cut R) (optional_syntax (is c) its s) top
phrase_tail {B} {R} {s} {top} c its O low L = optional_tail (opener_of O R s top low) (λ ts rest e. L)

own_phrase : {B : Type 0} (c : Cue) (its : List Item) (s : Syntax Item Cue B) (y : Option B) (p : Cue) → is_some y ≡ false → (optional_syntax (is c) its s).takes y p ≡ true → is c p ≡ true
own_phrase c its s None p none e = e
own_phrase c its s (Some y) p none e = absurd cc

none_grows : {A : Type 0} (top : ℕ) → Grows procedure (none_syntax {A = A}) top
none_grows top x t p good below e s = absurd cc

nothing_grows : (top : ℕ) → Grows procedure (nothing_syntax {I = Item} {M = Cue}) top
nothing_grows top x t p good below e s = absurd cc

led_grows : (d top : ℕ) (ks : List Keyword) → Grows procedure (stmts_syntax d) top → Grows procedure (led_syntax d ks) top
led_grows d top ks GI ss t p good below e s =
    let g = GI ss t p good (below_right procedure top (behind_words d ks) (print_stmts d ss) below) e s in
    record { tree = g.tree; good = g.good; item = g.item; more = g.more; text = ap (λ (z : List Item). behind_words d ks ++ z) g.text ∙ sym (append_assoc (behind_words d ks) (print_stmts d ss) (g.item ∷ g.more)); fits = g.fits; low = g.low }

abbrev pub some_list : Stmts
some_list = more_stmts (MkStmt 0 continue) no_stmts

-- what begins with NOT
not_samples : (c : Cue) (d top : ℕ) (is : List Item) (s : Syntax Item Cue Stmts) → d < top → s.Good some_list → Samples procedure (cue.is c) (key d word.Not ∷ is) s top
not_samples c d top is s low good = samples_opening (cue.is c) (key d word.Not) is s (λ t p e sh. record { symbol = shown_by_not t p sh; line = tt }) low some_list good

end_one : (a : Arithmetic) → OneToken procedure (is (end_cue a))
end_one (heads.add_to addends to) = not_taken (is EndAdd) refl refl refl refl
end_one (heads.add_giving addends to giving) = not_taken (is EndAdd) refl refl refl refl
end_one (heads.subtract_from less from) = not_taken (is EndSubtract) refl refl refl refl
end_one (heads.subtract_giving less from giving) = not_taken (is EndSubtract) refl refl refl refl
end_one (heads.multiply_by factor by) = not_taken (is EndMultiply) refl refl refl refl
end_one (heads.multiply_giving factor by giving) = not_taken (is EndMultiply) refl refl refl refl
end_one (heads.divide_into divisor into) = not_taken (is EndDivide) refl refl refl refl
end_one (heads.divide_giving first way second giving remainder) = not_taken (is EndDivide) refl refl refl refl
end_one (heads.compute to value) = not_taken (is EndCompute) refl refl refl refl

-- ---- what goes on in EVALUATE

module _ (K : Known) (d top : ℕ) (low : d < top) (GI : Grows procedure (stmts_syntax d) top) where
  when_grows : Grows procedure (when_syntax d) top
  when_grows = grows_seen (when_view d) (grows_dependent (choices_syntax d) (λ xs. stmts_syntax d) (λ xs good. GI))

  case_grows : Grows procedure (case_syntax d) top
  case_grows = grows_choose (led_grows d top other_words GI) when_grows

  open_grows : (ended : Bool) → Grows procedure (open_cases d ended) top
  open_grows ended y t p good below e s = let g = case_grows y t p good.0 below e s in record { tree = g.tree; good = (g.good, good.1); item = g.item; more = g.more; text = g.text; fits = g.fits; low = g.low }

  cases_grow : Grows procedure (cases_syntax d) top
  cases_grow xs t p good below e s = grows_many_from more_cases (open_cases d) is_other cue.Whens (λ ended x q g e0. ap ((case_syntax d).takes x) (whens_only (is_other ended x) q e0)) (λ ended. samples_one procedure (more_cases ended) [] (open_cases d ended) top (cases_one ended)) open_grows xs false t p good below e s

  bare_cases : (cs : List Case) → is_given cs ≡ false → (cases_syntax d).print cs ≡ []
  bare_cases [] none = refl
  bare_cases (c ∷ cs) none = absurd cc

  own_cases : (cs : List Case) (p : Cue) → is_given cs ≡ false → (cases_syntax d).takes cs p ≡ true → more_cases false p ≡ true
  own_cases [] p none e = e
  own_cases (c ∷ cs) p none e = absurd cc

  pub whens_grow : Grows procedure (whens_syntax d) top
  whens_grow = grows_tail (when_syntax d) (λ w. cases_syntax d) (λ w. more_cases false) is_given cue.Whens (λ w p good e. ap (when_takes w) (whens_only false p e)) (λ w. bare_cases) (λ w. own_cases) (λ w. ([], tt, refl)) when_grows (λ w. cases_grow)

-- ---- laws

module _ (K : Known) (d top room : ℕ) (low : d < top) (inner : Reader Sign Stmts) (LI : Law procedure inner (stmts_syntax d) top) (GI : Grows procedure (stmts_syntax d) top)
    (LH : Law procedure (head_at room) (head_syntax d) top) (LC : Law procedure (choices_at room) (choices_syntax d) top) where
  -- where a head ends, and where it may go on
  heads_end : Ends procedure (head_syntax d) top (λ x. may_go (takes_behind x.1)) (here cue.Starts)
  heads_end = ends_by nots not_seconds (K.heads_grow d top low) (λ x ts good there. free_next cue.Starts (takes_behind x.1) (K.head_never x cue.Starts good refl) ts there)

  abbrev inside_part_of : Begin × Head → Style Cue → Type 0
  inside_part_of x st = Part procedure top (head_syntax d) (λ y. inside_with inner room y.1) (λ y. inside_syntax d y.1) never_given x st

  pub inside_part : (x : Begin × Head) → GoodStarted x → inside_part_of x (inside_style x.1)
  inside_part (b, done v) good = record { value = no_inside; reads = λ ts. refl; good = tt; only = only_none; bare = refl; free = λ p. refl }
    where
      only_none : (y : Inside) → inside_good d (done v) y → y ≡ no_inside
      only_none no_inside g = refl
      only_none (list_inside ss) g = absurd g
      only_none (whens_inside w cs) g = absurd g
  inside_part (b, arithmetic a) good = record { value = no_inside; reads = λ ts. refl; good = tt; only = only_none; bare = refl; free = λ p. refl }
    where
      only_none : (y : Inside) → inside_good d (arithmetic a) y → y ≡ no_inside
      only_none no_inside g = refl
      only_none (list_inside ss) g = absurd g
      only_none (whens_inside w cs) g = absurd g
  inside_part (b, read_head file into) good = record { value = no_inside; reads = λ ts. refl; good = tt; only = only_none; bare = refl; free = λ p. refl }
    where
      only_none : (y : Inside) → inside_good d (read_head file into) y → y ≡ no_inside
      only_none no_inside g = refl
      only_none (list_inside ss) g = absurd g
      only_none (whens_inside w cs) g = absurd g
  inside_part (b, if_head c) good = record {
    reader = seen list_inside inner;
    test = here cue.Starts;
    goes = may_go (takes_behind (if_head c));
    reads = λ ts. refl;
    law = seen_law LI (if_view d c);
    all = all;
    one = start_told;
    ends = λ ts there. heads_end.ends (b, if_head c) ts good there;
    grows = λ t below goes. heads_end.grows (b, if_head c) t good below goes;
    steady = λ t goes. heads_end.steady (b, if_head c) t good goes;
  }
    where
      all : (y : Inside) (text rest : List Sign) → inside_good d (if_head c) y → Matches procedure (inside_print d y) text → here cue.Starts (text ++ rest) ≡ true
      all (list_inside ss) text rest g spells = stmts_begin d ss text rest g spells
      all no_inside text rest g spells = absurd g
      all (whens_inside w cs) text rest g spells = absurd g
  inside_part (b, perform_head turns) good = record {
    reader = seen list_inside inner;
    test = here cue.Starts;
    goes = may_go (takes_behind (perform_head turns));
    reads = λ ts. refl;
    law = seen_law LI (perform_view d turns);
    all = all;
    one = start_told;
    ends = λ ts there. heads_end.ends (b, perform_head turns) ts good there;
    grows = λ t below goes. heads_end.grows (b, perform_head turns) t good below goes;
    steady = λ t goes. heads_end.steady (b, perform_head turns) t good goes;
  }
    where
      all : (y : Inside) (text rest : List Sign) → inside_good d (perform_head turns) y → Matches procedure (inside_print d y) text → here cue.Starts (text ++ rest) ≡ true
      all (list_inside ss) text rest g spells = stmts_begin d ss text rest g spells
      all no_inside text rest g spells = absurd g
      all (whens_inside w cs) text rest g spells = absurd g
  inside_part (b, evaluate_head s) good = record {
    reader = seen make_whens (whens_with inner room);
    test = here cue.Whens;
    goes = may_go (takes_behind (evaluate_head s));
    reads = λ ts. refl;
    law = seen_law (whens_law K d top room low inner LI LC) (evaluate_view d s);
    all = all;
    one = whens_told;
    ends = λ ts there. free_next cue.Whens (takes_behind (evaluate_head s)) (K.head_never (b, evaluate_head s) cue.Whens good refl) ts there;
    grows = λ t below goes. heads_end.grows (b, evaluate_head s) t good below goes;
    steady = λ t goes. heads_end.steady (b, evaluate_head s) t good goes;
  }
    where
      all : (y : Inside) (text rest : List Sign) → inside_good d (evaluate_head s) y → Matches procedure (inside_print d y) text → here cue.Whens (text ++ rest) ≡ true
      all (whens_inside w cs) text rest g spells = whens_begin d (w, cs) text rest g spells
      all no_inside text rest g spells = absurd g
      all (list_inside ss) text rest g spells = absurd g

  pub begun_law : Law procedure (begun_with inner room) (begun_syntax d) top
  begun_law = mixed_law procedure top (head_syntax d) (λ x. inside_with inner room x.1) (λ x. inside_syntax d x.1) never_given (λ x. inside_style x.1) inside_part LH

  -- ---- with what they go on

  inside_grows : (h : Head) → Grows procedure (inside_syntax d h) top
  inside_grows (if_head c) (list_inside ss) t p good below e s = let g = GI ss t p good below e s in record { tree = list_inside g.tree; good = g.good; item = g.item; more = g.more; text = g.text; fits = g.fits; low = g.low }
  inside_grows (perform_head turns) (list_inside ss) t p good below e s = let g = GI ss t p good below e s in record { tree = list_inside g.tree; good = g.good; item = g.item; more = g.more; text = g.text; fits = g.fits; low = g.low }
  inside_grows (evaluate_head subject) (whens_inside w cs) t p good below e s = let g = whens_grow K d top low GI (w, cs) t p good below e s in record { tree = make_whens g.tree; good = g.good; item = g.item; more = g.more; text = g.text; fits = g.fits; low = g.low }
  inside_grows (done v) no_inside t p good below e s = absurd cc
  inside_grows (arithmetic a) no_inside t p good below e s = absurd cc
  inside_grows (read_head file into) no_inside t p good below e s = absurd cc
  inside_grows _ _ t p good below e s = absurd good

  begun_grows : Grows procedure (begun_syntax d) top
  begun_grows = mixed_grows procedure top (head_syntax d) (λ x. inside_with inner room x.1) (λ x. inside_syntax d x.1) never_given (λ x. inside_style x.1) inside_part (K.heads_grow d top low) (λ x good. inside_grows x.1)

  -- ---- the first phrase

  pub error_law : Law procedure (error_with inner) (led_syntax d error_words) top
  error_law = led_law d top low inner [] word.Error LI

  pub first_part : (x : Begun) → (begun_syntax d).Good x → Part procedure top (begun_syntax d) (λ y. first_with inner y.0.1) (λ y. first_syntax d y.0.1) is_some x (first_style x.0.1)
  first_part ((b, done v), i) good = record { value = None; reads = λ ts. refl; good = refl; only = λ y g. g; bare = refl; free = λ p. refl }
  first_part ((b, evaluate_head s), i) good = record { value = None; reads = λ ts. refl; good = refl; only = λ y g. g; bare = refl; free = λ p. refl }
  first_part ((b, perform_head turns), i) good = record { value = None; reads = λ ts. refl; good = refl; only = λ y g. g; bare = refl; free = λ p. refl }
  first_part ((b, arithmetic a), i) good = record { set = is Size; tail = phrase_tail Size (key d word.Size ∷ []) (size_opening d) (low, tt) error_law; alike = λ p e. ap ((begun_syntax d).takes ((b, arithmetic a), i)) (only Size p e); own = own_phrase Size (key d word.Size ∷ []) (led_syntax d error_words) }
  first_part ((b, if_head c), i) good = record { set = is Else; tail = phrase_tail Else (key d word.Else ∷ []) (else_opening d) (low, tt) LI; alike = λ p e. ap ((begun_syntax d).takes ((b, if_head c), i)) (only Else p e); own = own_phrase Else (key d word.Else ∷ []) (stmts_syntax d) }
  first_part ((b, read_head file into), i) good = record { set = is AtEnd; tail = phrase_tail AtEnd (key d word.End ∷ []) (end_opening d) (low, tt) LI; alike = λ p e. ap ((begun_syntax d).takes ((b, read_head file into), i)) (only AtEnd p e); own = own_phrase AtEnd (key d word.End ∷ []) (stmts_syntax d) }

  pub one_law : Law procedure (one_phrase inner room) (one_syntax d) top
  one_law = mixed_law procedure top (begun_syntax d) (λ x. first_with inner x.0.1) (λ x. first_syntax d x.0.1) is_some (λ x. first_style x.0.1) first_part begun_law

  first_grows : (h : Head) → Grows procedure (first_syntax d h) top
  first_grows (done v) = none_grows top
  first_grows (evaluate_head s) = none_grows top
  first_grows (perform_head turns) = none_grows top
  first_grows (arithmetic a) = grows_optional (is Size) (key d word.Size ∷ []) (samples_one procedure (is Size) (key d word.Size ∷ []) (led_syntax d error_words) top (not_taken (is Size) refl refl refl refl)) (led_grows d top error_words GI)
  first_grows (if_head c) = grows_optional (is Else) (key d word.Else ∷ []) (samples_one procedure (is Else) (key d word.Else ∷ []) (stmts_syntax d) top (not_taken (is Else) refl refl refl refl)) GI
  first_grows (read_head file into) = grows_optional (is AtEnd) (key d word.End ∷ []) (samples_one procedure (is AtEnd) (key d word.End ∷ []) (stmts_syntax d) top (not_taken (is AtEnd) refl refl refl refl)) GI

  one_grows : Grows procedure (one_syntax d) top
  one_grows = mixed_grows procedure top (begun_syntax d) (λ x. first_with inner x.0.1) (λ x. first_syntax d x.0.1) is_some (λ x. first_style x.0.1) first_part begun_grows (λ x good. first_grows x.0.1)

  -- ---- the second phrase

  pub second_part : (x : Begun × Option Stmts) → (one_syntax d).Good x → Part procedure top (one_syntax d) (λ y. second_with inner y.0.0.1) (λ y. second_syntax d y.0.0.1) is_some x (second_style x.0.0.1)
  second_part (((b, done v), i), o) good = record { value = None; reads = λ ts. refl; good = refl; only = λ y g. g; bare = refl; free = λ p. refl }
  second_part (((b, if_head c), i), o) good = record { value = None; reads = λ ts. refl; good = refl; only = λ y g. g; bare = refl; free = λ p. refl }
  second_part (((b, evaluate_head s), i), o) good = record { value = None; reads = λ ts. refl; good = refl; only = λ y g. g; bare = refl; free = λ p. refl }
  second_part (((b, perform_head turns), i), o) good = record { value = None; reads = λ ts. refl; good = refl; only = λ y g. g; bare = refl; free = λ p. refl }
  second_part (((b, arithmetic a), i), o) good = record { set = is NotSize; tail = phrase_tail NotSize (key d word.Not ∷ key d word.Size ∷ []) (not_size_opening d) (low, (low, tt)) error_law; alike = λ p e. ap ((one_syntax d).takes (((b, arithmetic a), i), o)) (only NotSize p e); own = own_phrase NotSize (key d word.Not ∷ key d word.Size ∷ []) (led_syntax d error_words) }
  second_part (((b, read_head file into), i), o) good = record { set = is NotAtEnd; tail = phrase_tail NotAtEnd (key d word.Not ∷ key d word.End ∷ []) (not_end_opening d) (low, (low, tt)) LI; alike = λ p e. ap ((one_syntax d).takes (((b, read_head file into), i), o)) (only NotAtEnd p e); own = own_phrase NotAtEnd (key d word.Not ∷ key d word.End ∷ []) (stmts_syntax d) }

  pub two_law : Law procedure (two_phrases inner room) (two_syntax d) top
  two_law = mixed_law procedure top (one_syntax d) (λ x. second_with inner x.0.0.1) (λ x. second_syntax d x.0.0.1) is_some (λ x. second_style x.0.0.1) second_part one_law

  second_grows : (h : Head) → Grows procedure (second_syntax d h) top
  second_grows (done v) = none_grows top
  second_grows (if_head c) = none_grows top
  second_grows (evaluate_head s) = none_grows top
  second_grows (perform_head turns) = none_grows top
  second_grows (arithmetic a) = grows_optional (is NotSize) (key d word.Not ∷ key d word.Size ∷ []) (not_samples NotSize d top (key d word.Size ∷ []) (led_syntax d error_words) low tt) (led_grows d top error_words GI)
  second_grows (read_head file into) = grows_optional (is NotAtEnd) (key d word.Not ∷ key d word.End ∷ []) (not_samples NotAtEnd d top (key d word.End ∷ []) (stmts_syntax d) low tt) GI

  two_grows : Grows procedure (two_syntax d) top
  two_grows = mixed_grows procedure top (one_syntax d) (λ x. second_with inner x.0.0.1) (λ x. second_syntax d x.0.0.1) is_some (λ x. second_style x.0.0.1) second_part one_grows (λ x good. second_grows x.0.0.1)

  -- ---- the last word

  two_end : Ends procedure (two_syntax d) top (λ x. may_go ((two_syntax d).takes x)) (stands (one_word word.EndPerform))
  two_end = ends_by nots not_seconds two_grows (λ x ts good there. perform_free ((two_syntax d).takes x) ts there)

  pub ended_tail : (c : Cue) (k : Keyword) → Opening procedure (is c) (key d k ∷ []) (behind (one_word k)) → Tail procedure (is c) is_some (ended_with k) (ended_syntax d c k) top
  ended_tail c k O = phrase_tail c (key d k ∷ []) O (low, tt) (nothing_law procedure top)

  pub closed_word : Law procedure (seen given_word (lead (one_word word.EndPerform))) (closed_syntax d) top
  closed_word = seen_law (lead_law (one_key d word.EndPerform) top (λ x a. low) tt tt) (closed_view d)

  pub end_part : (x : (Begun × Option Stmts) × Option Stmts) → (two_syntax d).Good x → Part procedure top (two_syntax d) (λ y. end_with y.0.0.0.1 y.0.0.1) (λ y. end_syntax d y.0.0.0.1) is_some x (end_style x.0.0.0.1)
  end_part ((((b, done v), i), o), u) good = record { value = None; reads = λ ts. refl; good = refl; only = λ y g. g; bare = refl; free = λ p. refl }
  end_part ((((b, arithmetic a), i), o), u) good = record { set = is (end_cue a); tail = ended_tail (end_cue a) (end_word a) (ends_opening a d); alike = λ p e. ap ((two_syntax d).takes ((((b, arithmetic a), i), o), u)) (only (end_cue a) p e); own = own_phrase (end_cue a) (key d (end_word a) ∷ []) nothing_syntax }
  end_part ((((b, if_head c), i), o), u) good = record { set = is EndIf; tail = ended_tail EndIf word.EndIf (end_if_opening d); alike = λ p e. ap ((two_syntax d).takes ((((b, if_head c), i), o), u)) (only EndIf p e); own = own_phrase EndIf (key d word.EndIf ∷ []) nothing_syntax }
  end_part ((((b, evaluate_head s), i), o), u) good = record { set = is EndEvaluate; tail = ended_tail EndEvaluate word.EndEvaluate (end_evaluate_opening d); alike = λ p e. ap ((two_syntax d).takes ((((b, evaluate_head s), i), o), u)) (only EndEvaluate p e); own = own_phrase EndEvaluate (key d word.EndEvaluate ∷ []) nothing_syntax }
  end_part ((((b, read_head file into), i), o), u) good = record { set = is EndRead; tail = ended_tail EndRead word.EndRead (end_read_opening d); alike = λ p e. ap ((two_syntax d).takes ((((b, read_head file into), i), o), u)) (only EndRead p e); own = own_phrase EndRead (key d word.EndRead ∷ []) nothing_syntax }
  end_part ((((b, perform_head turns), list_inside ss), o), u) good = record {
    reader = seen given_word (lead (one_word word.EndPerform));
    test = stands (one_word word.EndPerform);
    goes = may_go (list_takes ss);
    reads = λ ts. refl;
    law = closed_word;
    all = λ y text rest g spells. closed_all (one_key d word.EndPerform) tt text rest tt spells;
    one = λ t y z. refl;
    ends = λ ts there. perform_free (list_takes ss) ts there;
    grows = λ t below goes. two_end.grows ((((b, perform_head turns), list_inside ss), o), u) t good below goes;
    steady = λ t goes. two_end.steady ((((b, perform_head turns), list_inside ss), o), u) t good goes;
  }
  end_part ((((b, perform_head turns), no_inside), o), u) good = absurd good.0.0.1
  end_part ((((b, perform_head turns), whens_inside w cs), o), u) good = absurd good.0.0.1

  pub parts_law : Law procedure (parts_with inner room) (parts_syntax d) top
  parts_law = mixed_law procedure top (two_syntax d) (λ x. end_with x.0.0.0.1 x.0.0.1) (λ x. end_syntax d x.0.0.0.1) is_some (λ x. end_style x.0.0.0.1) end_part two_law

  ended_grows : (c : Cue) (k : Keyword) → OneToken procedure (is c) → Grows procedure (ended_syntax d c k) top
  ended_grows c k one = grows_optional (is c) (key d k ∷ []) (samples_one procedure (is c) (key d k ∷ []) nothing_syntax top one) (nothing_grows top)

  closed_grows : Grows procedure (closed_syntax d) top
  closed_grows x t p good below e s = absurd cc

  end_grows : (h : Head) → Grows procedure (end_syntax d h) top
  end_grows (done v) = none_grows top
  end_grows (arithmetic a) = ended_grows (end_cue a) (end_word a) (end_one a)
  end_grows (if_head c) = ended_grows EndIf word.EndIf (not_taken (is EndIf) refl refl refl refl)
  end_grows (evaluate_head s) = ended_grows EndEvaluate word.EndEvaluate (not_taken (is EndEvaluate) refl refl refl refl)
  end_grows (perform_head turns) = closed_grows
  end_grows (read_head file into) = ended_grows EndRead word.EndRead (not_taken (is EndRead) refl refl refl refl)

  pub parts_grow : Grows procedure (parts_syntax d) top
  parts_grow = mixed_grows procedure top (two_syntax d) (λ x. end_with x.0.0.0.1 x.0.0.1) (λ x. end_syntax d x.0.0.0.1) is_some (λ x. end_style x.0.0.0.1) end_part two_grows (λ x good. end_grows x.0.0.0.1)
