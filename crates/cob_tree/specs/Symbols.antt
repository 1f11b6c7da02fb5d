-- Tokens as the grammar sees them: a word is a reserved word, or a name.
use Rattle.std.specs.Prelude.{ℕ, List, Option, None, Some}
use Rattle.cob_tree.specs.declared.token.Num.{Num}
use Rattle.cob_tree.specs.declared.token.Rel.{Rel}
use Rattle.cob_tree.specs.declared.token.Tok.{Tok}
use Rattle.cob_tree.specs.declared.token.Tok.TheVariants as tok
use Rattle.cob_tree.specs.declared.token.Token.{Token}
use Rattle.cob_tree.specs.declared.keyword.Keyword.{Keyword}
use Rattle.cob_tree.specs.Keywords.{text_of, keyword_of}

pub data Symbol : Type 0 where
  Key : Keyword → Symbol
  Name : List ℕ → Symbol
  Number : Num → Symbol
  Text : List ℕ → Symbol
  Mark : ℕ → Symbol
  Relation : Rel → Symbol
  Pic : List ℕ → Symbol
  Stop : Symbol

abbrev pub word_symbol : List ℕ → Option Keyword → Symbol
word_symbol text None = Name text
word_symbol text (Some k) = Key k

abbrev pub symbol_of : Tok → Symbol
symbol_of (tok.Word text) = word_symbol text (keyword_of text)
symbol_of (tok.Number n) = Number n
symbol_of (tok.Text text) = Text text
symbol_of (tok.Mark m) = Mark m
symbol_of (tok.Relation r) = Relation r
symbol_of (tok.Pic text) = Pic text
symbol_of tok.Stop = Stop

-- the token that a symbol is written as
abbrev pub written : Symbol → Tok
written (Key k) = tok.Word (text_of k)
written (Name text) = tok.Word text
written (Number n) = tok.Number n
written (Text text) = tok.Text text
written (Mark m) = tok.Mark m
written (Relation r) = tok.Relation r
written (Pic text) = tok.Pic text
written Stop = tok.Stop

-- a symbol on a line
pub record Sign : Type 0 where
  pub symbol : Symbol
  pub line : ℕ

abbrev pub seen : Token → Sign
seen t = record { symbol = symbol_of t.tok; line = t.line }
