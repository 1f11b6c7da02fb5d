-- The laws of sentences, paragraphs and whole programs.
use Rattle.std.proofs.Common.{◌≡◌, ℕ, suc, ◌<◌, Bool, true, false, List, [], ◌∷◌, ◌++◌, Option, Some, None, is_some, refl, sym, ap, ◌∙◌, append_assoc, arith}
use Rattle.cob_tree.specs.declared.keyword.Keyword.{Keyword}
use Rattle.cob_tree.specs.declared.keyword.Keyword.TheVariants as word
use Rattle.cob_tree.specs.declared.front.Front.{Front}
use Rattle.cob_tree.specs.declared.tree.EndProgram.{EndProgram}
use Rattle.cob_tree.specs.Symbols.{Symbol, Key, Name, Number, Text, Mark, Relation, Pic, Stop, Sign}
use Rattle.cob_tree.specs.Items.{Item, stop, each}
use Rattle.cob_tree.specs.Cues.{Cue}
use Rattle.cob_tree.specs.Stmt.{MkStmt, Verb, move, Stmts, no_stmts, more_stmts, Paragraph, Tree}
use Rattle.cob_tree.specs.PrintFront as print
use Rattle.cob_tree.specs.PrintFront.{print_if, print_front, print_name_and_stop}
use Rattle.cob_tree.specs.PrintStmt.{first_word, print_sentence, print_paragraph, print_end, print_tree}
use Rattle.cob_tree.specs.Shaped.{ShapedStmts, ShapedParagraph}
use Rattle.reading.specs.Readers.{seq, closed, stands}
use Rattle.reading.specs.Printing.{peek_on, on_mark, Next}
use Rattle.reading.specs.Law.{Syntax, Law}
use Rattle.reading.proofs.Texts.{Always, takes_nothing}
use Rattle.reading.proofs.Dependent.{dependent_syntax, seq_syntax, seq_law}
use Rattle.reading.proofs.Lead.{Class, lead_syntax, branch_law}
use Rattle.reading.proofs.Seen.{View, seen_law}
use Rattle.reading.proofs.Starts.{Begins}
use Rattle.reading.proofs.Tail.{Tail}
use Rattle.reading.proofs.Many.{is_given}
use Rattle.reading.proofs.Optional.{optional_syntax}
use Rattle.reading.proofs.Must.{Ends, ends_by, closed_law}
use Rattle.cob_parse_expr.specs.LexemeClasses.{name_symbol, by_symbol, of, is, the, stop_symbol}
use Rattle.cob_parse_data.specs.Reading.{back, front, named}
use Rattle.cob_parse_data.proofs.Parts.{then_law, pair_syntax, pair_law, list_syntax, list_law, list_tail, optional_part, onward_false}
use Rattle.cob_parse_data.proofs.ClassLaws.{one_token, begins_with, starts_with, one_syntax, one_law, line_syntax, one_word, free_of, is_the, stops, names, lines}
use Rattle.cob_parse_data.proofs.ClassLaws as classes
use Rattle.cob_parse_data.proofs.WordLaws.{beside, heading_syntax, heading_law, named_syntax, named_law}
use Rattle.cob_parse_data.proofs.FrontLaw.{front_syntax, front_law, front_free}
use Rattle.cob_parse_verb.specs.Procedure.{procedure, token_front}
use Rattle.cob_parse_proc.specs.Bare.{list_takes}
use Rattle.cob_parse_proc.specs.Reading.{nots, may_go, stmts_at}
use Rattle.cob_parse_proc.specs.Parsing.{ShapedTree}
use Rattle.cob_parse_proc.specs.Program.{starts, sentence_at, sentences_at, make_paragraph, behind_name, paragraph_at, paragraphs_at, make_end, end_at, ending_at, before_at, Body, body_at, make_tree, tree_at}
use Rattle.cob_parse_proc.proofs.Across.{Alike, other_marks, law_across}
use Rattle.cob_parse_proc.proofs.Marks.{not_seconds}
use Rattle.cob_parse_proc.proofs.Syntaxes.{stmts_syntax, Known}
use Rattle.cob_parse_proc.proofs.StmtLaws.{law_of_statements, statements_grow}

-- ---- sentences

abbrev pub sentence_syntax : Syntax Item Symbol Stmts
sentence_syntax = record { Good = ShapedStmts; print = print_sentence; takes = takes_nothing }

pub alike : Alike procedure by_symbol
alike = record { to = λ i t f. f; back = λ i t f. f; depth = λ i. refl }

pub points : Class procedure (of stop_symbol) Always (λ x. stop 0)
points = record { reads = λ x t a f. ap stop_symbol f.symbol ∙ stops.reads x; only = λ t x e. (tt, record { symbol = stops.only t.symbol x e; line = tt }) }

-- a point ends whatever is open
point_free : (takes : Cue → Bool) (ts : List Sign) → stands (of stop_symbol) ts ≡ true → Next procedure takes ts
point_free takes [] e = refl
point_free takes (t ∷ ts) e = go (stop_symbol t.symbol) refl e
  where
    go : (o : Option (Unit {0})) → stop_symbol t.symbol ≡ o → is_some o ≡ true → Next procedure takes (t ∷ ts)
    go None eo e0 = absurd cc
    go (Some x) eo e0 = ap (λ (y : Symbol). on_mark procedure takes (peek_on procedure (token_front y) ts)) (stops.only t.symbol x eo)

abbrev with_point : Stmts → Stmts × Unit {0}
with_point ss = (ss, tt)

abbrev pub sentence_pair : Syntax Item Cue (Stmts × Unit {0})
sentence_pair = seq_syntax (stmts_syntax 0) (lead_syntax Always (λ (x : Unit {0}). stop 0))

pub sentence_view : View (other_marks alike sentence_pair) sentence_syntax front with_point
sentence_view = record { back = λ y good. refl; print = λ x good. refl; takes = λ x p good. refl; good = λ x good. good.0; good_back = λ y good. (good, tt) }

pub sentence_end : Known → (room : ℕ) → Ends procedure (stmts_syntax 0) (suc room) (λ ss. may_go (list_takes ss)) (stands (of stop_symbol))
sentence_end K room = ends_by nots not_seconds (statements_grow K room 0 (suc room) (omega arith)) (λ ss ts good there. point_free (list_takes ss) ts there)

pub closed_sentence : Known → (room : ℕ) → Law procedure (closed (stmts_at room) (of stop_symbol) (λ ss. may_go (list_takes ss))) sentence_pair (suc room)
closed_sentence K room = closed_law (law_of_statements K room 0 (suc room) (omega arith)) points (λ x a. omega arith) tt tt (sentence_end K room)

pub sentence_law : Known → (room : ℕ) → Law by_symbol (sentence_at room) sentence_syntax (suc room)
sentence_law K room = seen_law (law_across alike (closed_sentence K room) (λ x p. refl)) sentence_view

-- what begins a statement begins a sentence
verb_starts : (v : Verb) → starts (Key (first_word v)) ≡ true
verb_starts (move from to) = refl
verb_starts _ = refl

pub sentence_begins : Begins by_symbol starts sentence_syntax
sentence_begins no_stmts text rest good spells = absurd good
sentence_begins (more_stmts (MkStmt line v) ss) [] rest good spells = absurd spells
sentence_begins (more_stmts (MkStmt line v) ss) (t ∷ text) rest good spells = ap starts spells.0.symbol ∙ verb_starts v

abbrev pub sentences_syntax : Syntax Item Symbol (List Stmts)
sentences_syntax = list_syntax starts sentence_syntax

-- a list of sentences goes on with a sentence alone
pub sentences_take : (ss : List Stmts) (y : Symbol) → starts y ≡ false → sentences_syntax.takes ss y ≡ false
sentences_take [] y e = e
sentences_take (s ∷ ss) y e = onward_false (is_given ss) false (sentences_syntax.takes ss y) refl (sentences_take ss y e)

pub sentences_law : Known → (room : ℕ) → Law by_symbol (sentences_at room) sentences_syntax (suc room)
sentences_law K room = list_law (sentence_law K room) starts Stop (λ x good. refl) (λ x p good e. refl) (starts_with sentence_begins)

-- ---- paragraphs

abbrev pub paragraph_syntax : Syntax Item Symbol Paragraph
paragraph_syntax = record { Good = ShapedParagraph; print = print_paragraph; takes = λ p. sentences_syntax.takes p.sentences }

abbrev pub behind_syntax : Syntax Item Symbol (List Stmts)
behind_syntax = record { Good = sentences_syntax.Good; print = λ ss. stop 0 ∷ each print_sentence ss; takes = sentences_syntax.takes }

abbrev paragraph_parts : Paragraph → (ℕ × List ℕ) × List Stmts
paragraph_parts p = ((p.line, p.name), p.sentences)

pub low : (room : ℕ) → 0 < suc room
low room = omega arith

module _ (K : Known) (room : ℕ) where
  pub behind_view : View (dependent_syntax (one_syntax (λ (x : Unit {0}). Stop)) (λ x. sentences_syntax)) behind_syntax back beside
  behind_view = record { back = λ y good. refl; print = λ x good. refl; takes = λ x p good. refl; good = λ x good. good.1; good_back = λ y good. (tt, good) }

  pub behind_law : Law by_symbol (behind_name room) behind_syntax (suc room)
  behind_law = seen_law (branch_law (classes.tokens stops) (suc room) (λ x a. low room) tt tt (λ x. sentences_at room) (λ x. sentences_syntax) (λ x a. sentences_law K room)) behind_view

  pub paragraph_view : View (dependent_syntax (line_syntax (λ text. Name text)) (λ x. behind_syntax)) paragraph_syntax make_paragraph paragraph_parts
  paragraph_view = record { back = λ y good. refl; print = λ x good. refl; takes = λ x p good. refl; good = λ x good. good.1; good_back = λ y good. (tt, good) }

  pub paragraph_law : Law by_symbol (paragraph_at room) paragraph_syntax (suc room)
  paragraph_law = seen_law (branch_law (lines names) (suc room) (λ x a. low room) (0, []) tt (λ x. behind_name room) (λ x. behind_syntax) (λ x a. behind_law)) paragraph_view

pub paragraph_begins : Begins by_symbol (is name_symbol) paragraph_syntax
paragraph_begins = begins_with names paragraph_syntax (λ p good. (p.name, Some p.line, stop 0 ∷ each print_sentence p.sentences, refl))

-- a name begins no statement
pub name_free : (y : Symbol) → is name_symbol y ≡ true → starts y ≡ false
name_free (Name text) e = refl
name_free (Key k) e = absurd cc
name_free (Number n) e = refl
name_free (Text text) e = refl
name_free (Mark ch) e = refl
name_free (Relation r) e = refl
name_free (Pic text) e = refl
name_free Stop e = refl

abbrev pub paragraphs_syntax : Syntax Item Symbol (List Paragraph)
paragraphs_syntax = list_syntax (is name_symbol) paragraph_syntax

abbrev pub parts_syntax : Syntax Item Symbol (List Stmts × List Paragraph)
parts_syntax = pair_syntax sentences_syntax paragraphs_syntax is_given

module _ (K : Known) (room : ℕ) where
  pub paragraphs_tail : Tail by_symbol (is name_symbol) is_given (paragraphs_at room) paragraphs_syntax (suc room)
  paragraphs_tail = list_tail (paragraph_law K room) (is name_symbol) Stop (λ p good. sentences_take p.sentences Stop refl) (λ p y good e. sentences_take p.sentences y (name_free y e)) (starts_with paragraph_begins)

  pub parts_law : Law by_symbol (seq (sentences_at room) (paragraphs_at room)) parts_syntax (suc room)
  parts_law = pair_law (sentences_law K room) paragraphs_tail Stop (λ ss good. sentences_take ss Stop refl) (λ ss y good e. sentences_take ss y (name_free y e))

paragraphs_take : (ps : List Paragraph) (y : Symbol) → starts y ≡ false → is name_symbol y ≡ false → paragraphs_syntax.takes ps y ≡ false
paragraphs_take [] y e f = f
paragraphs_take (p ∷ ps) y e f = onward_false (is_given ps) (sentences_syntax.takes p.sentences y) (paragraphs_syntax.takes ps y) (sentences_take p.sentences y e) (paragraphs_take ps y e f)

pub parts_take : (x : List Stmts × List Paragraph) (y : Symbol) → starts y ≡ false → is name_symbol y ≡ false → parts_syntax.takes x y ≡ false
parts_take x y e f = onward_false (is_given x.1) (sentences_syntax.takes x.0 y) (paragraphs_syntax.takes x.1 y) (sentences_take x.0 y e) (paragraphs_take x.1 y e f)

-- ---- END PROGRAM

abbrev pub end_syntax : Syntax Item Symbol EndProgram
end_syntax = record { Good = Always; print = print_end; takes = takes_nothing }

abbrev end_parts : EndProgram → (ℕ × Unit {0}) × List ℕ
end_parts e = ((e.line, tt), e.name)

end_view : View (dependent_syntax (line_syntax (λ (x : Unit {0}). Key word.EndProgram)) (λ x. named_syntax)) end_syntax make_end end_parts
end_view = record { back = λ y good. refl; print = λ x good. refl; takes = λ x p good. refl; good = λ x good. tt; good_back = λ y good. (tt, tt) }

end_law : (room : ℕ) → Law by_symbol end_at end_syntax (suc room)
end_law room = seen_law (branch_law (lines (one_word word.EndProgram)) (suc room) (λ x a. low room) (0, tt) tt (λ x. named) (λ x. named_syntax) (λ x a. named_law (suc room) (low room))) end_view

abbrev pub ending_syntax : Syntax Item Symbol (Option EndProgram)
ending_syntax = optional_syntax (is (the word.EndProgram)) [] end_syntax

pub ending_tail : (room : ℕ) → Tail by_symbol (is (the word.EndProgram)) is_some ending_at ending_syntax (suc room)
ending_tail room = optional_part (is (the word.EndProgram)) (end_law room) (starts_with (begins_with (one_word word.EndProgram) end_syntax (λ e good. (tt, Some e.line, print_name_and_stop e.name, refl))))

-- ---- whole programs

abbrev pub body_syntax : Syntax Item Symbol Body
body_syntax = pair_syntax parts_syntax ending_syntax is_some

pub body_law : Known → (room : ℕ) → Law by_symbol (body_at room) body_syntax (suc room)
body_law K room = pair_law (parts_law K room) (ending_tail room) Stop (λ x good. parts_take x Stop refl refl) (λ x y good e. free_of word.EndProgram (parts_syntax.takes x) (parts_take x (Key word.EndProgram) refl refl) y e)

abbrev pub procedure_words : List Keyword
procedure_words = word.Procedure ∷ word.Division ∷ []

abbrev pub before_syntax : Syntax Item Symbol (Front × Unit {0})
before_syntax = seq_syntax front_syntax (heading_syntax procedure_words)

pub before_law : (room : ℕ) → Law by_symbol before_at before_syntax (suc room)
before_law room = then_law (front_law (suc room) (low room)) (heading_law (suc room) (low room) procedure_words) (λ f. one_token (front_syntax.takes f)) (is (the word.Procedure)) (begins_with (one_word word.Procedure) (heading_syntax procedure_words) (λ x good. (tt, None, print.heading (word.Division ∷ []), refl)))
    (λ f y good e. free_of word.Procedure (front_syntax.takes f) (front_free (Key word.Procedure) refl refl refl refl refl refl refl refl refl refl refl f good) y e)

abbrev tree_parts : Tree → (Front × Unit {0}) × Body
tree_parts t = ((t.front, tt), ((t.sentences, t.paragraphs), t.end))

abbrev pub tree_syntax : Syntax Item Symbol Tree
tree_syntax = record { Good = ShapedTree; print = print_tree; takes = λ t. body_syntax.takes (tree_parts t).1 }

end_good : (o : Option EndProgram) → ending_syntax.Good o
end_good None = tt
end_good (Some e) = tt

ending_print : (o : Option EndProgram) → print_if print_end o ≡ ending_syntax.print o
ending_print None = refl
ending_print (Some e) = refl

print_back : (x : (Front × Unit {0}) × Body) → print_tree (make_tree x) ≡ (seq_syntax before_syntax body_syntax).print x
print_back x =
    ap (λ (z : List Item). print_front x.0.0 ++ (print.heading procedure_words ++ z)) (sym (append_assoc (each print_sentence x.1.0.0) (each print_paragraph x.1.0.1) (print_if print_end x.1.1)))
    ∙ ap (λ (z : List Item). print_front x.0.0 ++ (print.heading procedure_words ++ ((each print_sentence x.1.0.0 ++ each print_paragraph x.1.0.1) ++ z))) (ending_print x.1.1)
    ∙ sym (append_assoc (print_front x.0.0) (print.heading procedure_words) (body_syntax.print x.1))

pub tree_view : View (seq_syntax before_syntax body_syntax) tree_syntax make_tree tree_parts
tree_view = record { back = λ y good. refl; print = λ x good. print_back x; takes = λ x p good. refl; good = λ x good. (good.0.0, good.1.0.0, good.1.0.1); good_back = λ t good. ((good.0, tt), ((good.1, good.2), end_good t.end)) }

-- the law of whole programs, where so many statements and parentheses may be open
pub tree_law : Known → (room : ℕ) → Law by_symbol (tree_at room) tree_syntax (suc room)
tree_law K room = seen_law (seq_law (before_law room) (λ x p good. refl) (body_law K room)) tree_view
