-- Where there is too little room for a program: each whose text goes on with the token opens one too many there.
use Rattle.std.proofs.Common.{◌≡◌, ℕ, suc, ◌+◌, ◌≤◌, ◌<◌, ⊎_elim, Bool, true, false, List, [], ◌∷◌, ◌++◌, length, length-append, Option, Some, None, Err, refl, sym, ap, subst, ◌∙◌, append_assoc, arith}
use Rattle.std.specs.List.{AllByRecursion}
use Rattle.std.proofs.lemmas.List.{append-nil}
use Rattle.std.proofs.lemmas.Bool.{cases_lt}
use Rattle.cob_tree.specs.declared.keyword.Keyword.TheVariants as word
use Rattle.cob_tree.specs.Symbols.{Symbol, Key, Name, Sign}
use Rattle.cob_tree.specs.Symbols as symbol
use Rattle.cob_tree.specs.Items.{Item, each}
use Rattle.cob_tree.specs.declared.front.Front.{Front}
use Rattle.cob_tree.specs.declared.tree.EndProgram.{EndProgram}
use Rattle.cob_tree.specs.Stmt.{Tree}
use Rattle.cob_tree.specs.PrintFront as print
use Rattle.cob_tree.specs.PrintFront.{print_front}
use Rattle.cob_tree.specs.PrintStmt.{print_tree}
use Rattle.reading.specs.Readers.{Stop, Deep, Reader, ended, whole, seq, many}
use Rattle.reading.specs.Printing.{Alphabet, Matches, Below, Opens, begins}
use Rattle.reading.specs.Law.{Syntax, Law, OpensAt, Deepens, onward}
use Rattle.reading.proofs.Results.{bind_err, fault_is, cut_at}
use Rattle.reading.proofs.Texts.{takes_nothing, next_none, next_same, matches_join, matches_length, below_join, below_right}
use Rattle.reading.proofs.Opens.{below_wider, not_later}
use Rattle.reading.proofs.Exact.{enough}
use Rattle.reading.proofs.Whole.{whole_deep}
use Rattle.reading.proofs.Starts.{Starts}
use Rattle.reading.proofs.Tail.{apart, Tail}
use Rattle.reading.proofs.Many.{is_given, many_syntax}
use Rattle.reading.proofs.Deeper.{deepens_never, deepens_seen, deepens_seq, deepens_tail, deepens_branch, deepens_closed, deepens_many}
use Rattle.cob_parse_expr.specs.LexemeClasses.{name_symbol, by_symbol, is}
use Rattle.cob_parse_data.proofs.Parts.{pair_syntax, list_syntax}
use Rattle.cob_parse_data.proofs.ClassLaws.{one_token, free_of, one_syntax, line_syntax, starts_with, stops, names, lines}
use Rattle.cob_parse_data.proofs.ClassLaws as classes
use Rattle.cob_parse_data.proofs.Outcomes.{shallow}
use Rattle.cob_parse_proc.specs.Program.{limit, starts, sentence_at, sentences_at, behind_name, paragraph_at, paragraphs_at, body_at, tree_at}
use Rattle.cob_parse_proc.specs.Parsing.{top, GoesOn, Stops, IsDeep}
use Rattle.cob_parse_proc.proofs.Across.{Alike, matches_back, low_to, low_back, other_marks}
use Rattle.cob_parse_proc.proofs.StmtLaws.{law_of_statements}
use Rattle.cob_parse_proc.proofs.StmtDeep.{statements_deepen}
use Rattle.cob_parse_proc.proofs.ProgramLaws.{sentence_syntax, alike, points, sentence_view, sentence_end, sentence_law, sentence_begins, sentences_syntax, sentences_take, sentences_law, paragraph_syntax, behind_syntax, low, behind_view, behind_law, paragraph_view, paragraph_law, paragraph_begins, name_free, paragraphs_syntax, parts_syntax, paragraphs_tail, parts_law, parts_take, ending_syntax, ending_tail, body_syntax, body_law, procedure_words, before_syntax, before_law, tree_syntax, tree_view}
use Rattle.cob_parse_proc.proofs.ProgramAnswers.{wides, wide_law, wide_agrees, law, spell, spelled}
use Rattle.cob_parse_proc.proofs.ProgramOnce.{no_later}
use Rattle.cob_parse_proc.proofs.Given.{known}

-- ---- with other marks

module _ {T I M N B : Type 0} {G : Alphabet T I M} {H : Alphabet T I N} (A : Alike G H) {R : Reader T B} {s : Syntax I M B} {most wide : ℕ} (ended_ : (x : B) (p : M) → s.takes x p ≡ false) (D : Deepens G R s most wide) where
  opens_across : (is : List I) (place : ℕ) → OpensAt G most is place → OpensAt H most is place
  opens_across is place o = record { before = o.before; item = o.item; after = o.after; parts = o.parts; count = o.count; below = low_to A most o.before o.below; depth = sym (A.depth o.item) ∙ o.depth }

  deepens_across : Deepens H R (other_marks A s) most wide
  deepens_across = record {
    there = λ q r z text rest t b e spells good below next same. opens_across (s.print b) (length q)
        (D.there q r z text rest t b e (matches_back A (s.print b) text spells) good (low_back A wide (s.print b) below) (next_same G (takes_nothing b) (s.takes b) rest (λ p. sym (ended_ b p)) (next_none G rest)) same);
  }

-- ---- lists and pairs of the outer grammar

module _ {A : Type 0} {R R' : Reader Sign A} {s : Syntax Item Symbol A} {most wide : ℕ} (le : most ≤ wide) (L : Law by_symbol R s most) (W : Law by_symbol R' s wide) (D : Deepens by_symbol R s most wide)
    (set : Symbol → Bool) (m : Symbol) (never : (x : A) → s.Good x → s.takes x m ≡ false) (free : (x : A) (p : Symbol) → s.Good x → set p ≡ true → s.takes x p ≡ false) (St : Starts by_symbol set R s) where
  many_deepen : Deepens by_symbol (many (begins by_symbol set) R) (many_syntax set s m) most wide
  many_deepen = deepens_many le L W D set m (λ x p good e. free x p good e ∙ sym (never x good)) St

  printed : (xs : List A) → each s.print xs ≡ (many_syntax set s m).print xs
  printed [] = refl
  printed (x ∷ xs) = ap (λ (z : List Item). s.print x ++ z) (printed xs)

  taken : (xs : List A) (p : Symbol) → (list_syntax set s).takes xs p ≡ (many_syntax set s m).takes xs p
  taken [] p = refl
  taken (x ∷ xs) p = ap (λ (z : Bool). onward (is_given xs) (s.takes x p) z) (taken xs p)

  good_back : (xs : List A) → AllByRecursion s.Good xs → (many_syntax set s m).Good xs
  good_back [] g = tt
  good_back (x ∷ xs) g = (g.0, good_back xs g.1, apart (is_given xs) (s.takes x m) (never x g.0))

  list_deepen : Deepens by_symbol (many (begins by_symbol set) R) (list_syntax set s) most wide
  list_deepen = record {
    there = λ q r z text rest t xs e spells good below next same. subst (λ (is : List Item). OpensAt by_symbol most is (length q)) (sym (printed xs))
        (many_deepen.there q r z text rest t xs e (subst (λ (is : List Item). Matches by_symbol is text) (printed xs) spells) (good_back xs good) (subst (Below by_symbol wide) (printed xs) below) (next_same by_symbol ((list_syntax set s).takes xs) ((many_syntax set s m).takes xs) rest (λ p. taken xs p) next) same);
  }

module _ {A B : Type 0} {R R' : Reader Sign A} {a : Syntax Item Symbol A} {S : Reader Sign B} {b : Syntax Item Symbol B} {set : Symbol → Bool} {given : B → Bool} {most wide : ℕ} (le : most ≤ wide) (LA : Law by_symbol R a most) (WA : Law by_symbol R' a wide) (DA : Deepens by_symbol R a most wide)
    (tail : Tail by_symbol set given S b most) (DB : Deepens by_symbol S b most wide) (m : Symbol) (never : (x : A) → a.Good x → a.takes x m ≡ false) (free : (x : A) (p : Symbol) → a.Good x → set p ≡ true → a.takes x p ≡ false) where
  pair_deepen : Deepens by_symbol (seq R S) (pair_syntax a b given) most wide
  pair_deepen =
      let D = deepens_tail le LA WA DA m (λ x p good e. free x p good e ∙ sym (never x good)) (λ x. tail) (λ x good. DB) in
      record { there = λ q r z text rest t x e spells good below next same. D.there q r z text rest t x e spells (good.0, good.1, apart (given x.1) (a.takes x.0 m) (never x.0 good.0)) below next same }

-- ---- sentences and paragraphs

module _ (room more : ℕ) where
  abbrev wide : ℕ
  wide = suc (room + more)

  le : suc room ≤ wide
  le = omega arith

  sentence_deepens : Deepens by_symbol (sentence_at room) sentence_syntax (suc room) wide
  sentence_deepens = deepens_seen sentence_view (deepens_across alike (λ x p. refl) (deepens_closed points le (λ x a. omega arith) tt tt (law_of_statements known room 0 (suc room) (omega arith)) (law_of_statements known (room + more) 0 wide (omega arith)) (sentence_end known room) (statements_deepen known room more 0 (suc room) wide (omega arith) (omega arith))))

  sentences_deepen : Deepens by_symbol (sentences_at room) sentences_syntax (suc room) wide
  sentences_deepen = list_deepen le (sentence_law known room) (sentence_law known (room + more)) sentence_deepens starts symbol.Stop (λ x good. refl) (λ x p good e. refl) (starts_with sentence_begins)

  behind_deepens : Deepens by_symbol (behind_name room) behind_syntax (suc room) wide
  behind_deepens = deepens_seen (behind_view known room) (deepens_branch (classes.tokens stops) le (λ x a. low room) tt tt (λ x. sentences_at room) (λ x. sentences_syntax) (λ x a. sentences_law known room) (λ x a. sentences_deepen))

  paragraph_deepens : Deepens by_symbol (paragraph_at room) paragraph_syntax (suc room) wide
  paragraph_deepens = deepens_seen (paragraph_view known room) (deepens_branch (lines names) le (λ x a. low room) (0, []) tt (λ x. behind_name room) (λ x. behind_syntax) (λ x a. behind_law known room) (λ x a. behind_deepens))

  paragraphs_deepen : Deepens by_symbol (paragraphs_at room) paragraphs_syntax (suc room) wide
  paragraphs_deepen = list_deepen le (paragraph_law known room) (paragraph_law known (room + more)) paragraph_deepens (is name_symbol) symbol.Stop (λ p good. sentences_take p.sentences symbol.Stop refl) (λ p y good e. sentences_take p.sentences y (name_free y e)) (starts_with paragraph_begins)

  parts_deepen : Deepens by_symbol (seq (sentences_at room) (paragraphs_at room)) parts_syntax (suc room) wide
  parts_deepen = pair_deepen le (sentences_law known room) (sentences_law known (room + more)) sentences_deepen (paragraphs_tail known room) paragraphs_deepen symbol.Stop (λ ss good. sentences_take ss symbol.Stop refl) (λ ss y good e. sentences_take ss y (name_free y e))

-- ---- what never is too deep

module _ {A : Type 0} {R : Reader Sign A} {s : Syntax Item Symbol A} (L : Law by_symbol R s 1) (shallows : (x : A) → s.Good x → Below by_symbol 1 (s.print x)) where
  opens_none : (left : List Sign) (after : List Item) → Opens by_symbol 1 left after → Below by_symbol 1 after → ⊥
  opens_none [] after o b = absurd o
  opens_none (t ∷ left) [] o b = absurd o
  opens_none (t ∷ left) (i ∷ after) o b = omega (arith, o.1, b.0)

  no_deep : (ts : List Sign) (n : ℕ) → R ts ≡ Err (Deep n) → ⊥
  no_deep ts n e = let h = L.fails ts (Deep n) e in opens_none h.left h.after h.at.1 (below_right by_symbol 1 h.before h.after (subst (Below by_symbol 1) h.text (shallows h.tree h.good)))

ending_shallow : (o : Option EndProgram) → ending_syntax.Good o → Below by_symbol 1 (ending_syntax.print o)
ending_shallow None g = tt
ending_shallow (Some e) g = (omega arith, (omega arith, (omega arith, tt)))

before_shallow : (x : Front × Unit {0}) → before_syntax.Good x → Below by_symbol 1 (before_syntax.print x)
before_shallow x g = below_join by_symbol 1 (print_front x.0) (print.heading procedure_words) (shallow x.0 g.0) (omega arith, (omega arith, (omega arith, tt)))

-- ---- whole programs

module _ (room more : ℕ) where
  body_deepens : Deepens by_symbol (body_at room) body_syntax (suc room) (suc (room + more))
  body_deepens = pair_deepen (omega arith) (parts_law known room) (parts_law known (room + more)) (parts_deepen room more) (ending_tail room) (deepens_never (no_deep (ending_tail 0).law ending_shallow)) symbol.Stop
      (λ x good. parts_take x symbol.Stop refl refl) (λ x y good e. free_of word.EndProgram (parts_syntax.takes x) (parts_take x (Key word.EndProgram) refl refl) y e)

  tree_deepens : Deepens by_symbol (tree_at room) tree_syntax (suc room) (suc (room + more))
  tree_deepens = deepens_seen tree_view (deepens_seq (omega arith) (before_law room) (before_law (room + more)) (deepens_never (no_deep (before_law 0) before_shallow)) (λ x p good. refl) (body_law known room) body_deepens)

pub tree_deepen : (more : ℕ) → Deepens by_symbol (tree_at limit) tree_syntax top (top + more)
tree_deepen more = subst (Deepens by_symbol (tree_at limit) tree_syntax top) (omega arith) (tree_deepens limit more)

-- ---- what is refused isn't too deep

-- where a tree opens one too many, reading tells it
pub deep_told : (ts : List Sign) (w : IsDeep ts) → whole (tree_at limit) (w.read ++ w.next ∷ w.rest) ≡ Err (Deep (suc (length w.rest)))
deep_told ts w =
    let behind = spelled w.after in
    let spells : Matches by_symbol (print_tree w.tree) (w.read ++ w.next ∷ behind.0) = subst (λ (is : List Item). Matches by_symbol is (w.read ++ w.next ∷ behind.0)) (sym w.text) (matches_join by_symbol w.before (w.item ∷ w.after) w.read (w.next ∷ behind.0) w.spells (w.fits, behind.1)) in
    whole_deep law wides wide_law wide_agrees (λ t. one_token (tree_syntax.takes t)) tree_deepen spell w.read w.rest behind.0 w.next w.tree w.shaped spells
    (record { before = w.before; item = w.item; after = w.after; parts = w.text; count = matches_length by_symbol w.before w.read w.spells; below = w.below; depth = w.depth })

ended_stops : (a : Tree) (ts : List Sign) (n : ℕ) → ended a ts ≡ Err (Deep n) → ⊥
ended_stops a [] n e = absurd cc
ended_stops a (t ∷ ts) n e = let never : Stop (length (t ∷ ts)) ≡ Deep n = fault_is {A = Tree} (Stop (length (t ∷ ts))) (Deep n) e in absurd cc

deep_inside : (ts : List Sign) (n : ℕ) → whole (tree_at limit) ts ≡ Err (Deep n) → tree_at limit ts ≡ Err (Deep n)
deep_inside ts n e = ⊎_elim (λ stop. stop) (λ w. absurd (ended_stops w.0.0 w.0.1 n w.2)) (bind_err (tree_at limit ts) (λ a. ended a.0 a.1) (Deep n) e)

module _ (ts u : List Sign) (x : Stops ts u) (w : IsDeep ts) where
  deep_goes_on : GoesOn (w.read ++ w.next ∷ [])
  deep_goes_on = record { tree = w.tree; shaped = w.shaped; before = w.before ++ w.item ∷ []; after = w.after; text = w.text ∙ sym (append_assoc w.before (w.item ∷ []) w.after); spells = matches_join by_symbol w.before (w.item ∷ []) w.read (w.next ∷ []) w.spells (w.fits, tt) }

  whole_parts : ts ≡ (w.read ++ w.next ∷ []) ++ w.rest
  whole_parts = w.parts ∙ sym (append_assoc w.read (w.next ∷ []) w.rest)

  sooner : length w.rest < length u → ⊥
  sooner lt =
      let cut = cut_at (w.read ++ w.next ∷ []) w.rest x.read u (sym whole_parts ∙ x.parts) (omega (arith, lt)) in
      let none : cut.0 ≡ [] = no_later ts u (w.read ++ w.next ∷ []) cut.0 w.rest x cut.1 cut.2 deep_goes_on in
      omega (arith, lt, ap length cut.1, length-append cut.0 w.rest, ap length none)

  -- a tree that goes on behind the token with no more open than may be opens one too many there
  through : (m : List Sign) → x.read ≡ w.read ++ w.next ∷ m → ⊥
  through m same =
      let behind = spelled x.goes_on.after in
      let room = enough by_symbol (print_tree x.goes_on.tree) in
      let spells : Matches by_symbol (print_tree x.goes_on.tree) (x.read ++ behind.0) = subst (λ (is : List Item). Matches by_symbol is (x.read ++ behind.0)) (sym x.goes_on.text) (matches_join by_symbol x.goes_on.before x.goes_on.after x.read behind.0 x.goes_on.spells behind.1) in
      let text : x.read ++ behind.0 ≡ w.read ++ w.next ∷ (m ++ behind.0) = ap (λ (z : List Sign). z ++ behind.0) same ∙ append_assoc w.read (w.next ∷ m) behind.0 in
      let at = (tree_deepen room.0).there w.read w.rest (m ++ behind.0) (x.read ++ behind.0) [] w.next x.goes_on.tree (deep_inside (w.read ++ w.next ∷ w.rest) (suc (length w.rest)) (deep_told ts w)) spells x.goes_on.shaped (below_wider by_symbol room.0 (top + room.0) (print_tree x.goes_on.tree) (omega arith) room.1) refl (append-nil (x.read ++ behind.0) ∙ text) in
      omega (arith, not_later by_symbol top (print_tree x.goes_on.tree) x.goes_on.before x.goes_on.after (length w.read) at x.goes_on.text x.below, matches_length by_symbol x.goes_on.before x.read x.goes_on.spells, ap length same, length-append w.read (w.next ∷ m))

  later : length u ≤ length w.rest → ⊥
  later shorter =
      let cut = cut_at x.read u (w.read ++ w.next ∷ []) w.rest (sym x.parts ∙ whole_parts) shorter in
      through cut.0 (cut.2 ∙ append_assoc w.read (w.next ∷ []) cut.0)

  pub wrong_or_deep : ⊥
  wrong_or_deep = ⊎_elim sooner later (cases_lt (length w.rest) (length u))
