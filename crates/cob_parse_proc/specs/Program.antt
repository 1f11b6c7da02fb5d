-- How sentences, paragraphs and whole programs are read. Outside of sentences each token is its own mark.
use Rattle.std.specs.Prelude.{ℕ, Bool, false, List, [], ◌∷◌, Option, is_some}
use Rattle.cob_tree.specs.declared.keyword.Keyword.TheVariants as word
use Rattle.cob_tree.specs.declared.front.Front.{Front}
use Rattle.cob_tree.specs.declared.tree.EndProgram.{EndProgram}
use Rattle.cob_tree.specs.Symbols.{Symbol, Key, Sign}
use Rattle.cob_tree.specs.Stmt.{Stmts, Paragraph, Tree}
use Rattle.reading.specs.Readers.{Reader, branch, seen, seq, many, optional, here_if, closed}
use Rattle.reading.specs.Printing.{begins}
use Rattle.cob_parse_expr.specs.LexemeClasses.{name_symbol, word_symbol, by_symbol, of, the, on_its_line, stop_symbol}
use Rattle.cob_parse_expr.specs.LexemeClasses as tokens
use Rattle.cob_parse_data.specs.Reading.{back, front, heading, named, front_at}
use Rattle.cob_parse_verb.specs.declared.word.Start.{Start}
use Rattle.cob_parse_verb.specs.Words.{start_key}
use Rattle.cob_parse_proc.specs.Bare.{list_takes}
use Rattle.cob_parse_proc.specs.Reading.{may_go, stmts_at}

-- The most statements and parentheses that may be open at one token.
abbrev pub limit : ℕ
limit = 64

-- the word with which a statement begins
abbrev pub start_symbol : Symbol → Option Start
start_symbol y = word_symbol start_key y

-- a statement begins with the token
abbrev pub starts : Symbol → Bool
starts y = tokens.is start_symbol y

-- ---- each where so many may be open

abbrev pub sentence_at : ℕ → Reader Sign Stmts
sentence_at room = seen front (closed (stmts_at room) (of stop_symbol) (λ ss. may_go (list_takes ss)))

abbrev pub sentences_at : ℕ → Reader Sign (List Stmts)
sentences_at room = many (begins by_symbol starts) (sentence_at room)

abbrev pub make_paragraph : (ℕ × List ℕ) × List Stmts → Paragraph
make_paragraph x = record { line = x.0.0; name = x.0.1; sentences = x.1 }

-- what stands behind a paragraph's name
abbrev pub behind_name : ℕ → Reader Sign (List Stmts)
behind_name room = seen back (branch (of stop_symbol) (λ x. sentences_at room))

abbrev pub paragraph_at : ℕ → Reader Sign Paragraph
paragraph_at room = seen make_paragraph (branch (on_its_line name_symbol) (λ x. behind_name room))

abbrev pub paragraphs_at : ℕ → Reader Sign (List Paragraph)
paragraphs_at room = many (tokens.here name_symbol) (paragraph_at room)

abbrev pub make_end : (ℕ × Unit {0}) × List ℕ → EndProgram
make_end x = record { line = x.0.0; name = x.1 }

abbrev pub end_at : Reader Sign EndProgram
end_at = seen make_end (branch (on_its_line (the word.EndProgram)) (λ x. named))

abbrev pub ending_at : Reader Sign (Option EndProgram)
ending_at = optional (here_if (tokens.here (the word.EndProgram))) end_at

-- the divisions before PROCEDURE, and its heading
abbrev pub before_at : Reader Sign (Front × Unit {0})
before_at = seq front_at (heading (word.Procedure ∷ word.Division ∷ []))

abbrev pub Body : Type 0
Body = (List Stmts × List Paragraph) × Option EndProgram

abbrev pub body_at : ℕ → Reader Sign Body
body_at room = seq (seq (sentences_at room) (paragraphs_at room)) ending_at

abbrev pub make_tree : (Front × Unit {0}) × Body → Tree
make_tree x = record { front = x.0.0; sentences = x.1.0.0; paragraphs = x.1.0.1; end = x.1.1 }

abbrev pub tree_at : ℕ → Reader Sign Tree
tree_at room = seen make_tree (seq before_at (body_at room))
