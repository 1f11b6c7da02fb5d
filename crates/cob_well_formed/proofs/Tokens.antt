-- The numerals of a source's tree have at most 18 digits, since those among its tokens have.
use Rattle.std.proofs.Common.{◌≡◌, ℕ, List, [], ◌∷◌, map, Option, None, Some, Result, Ok, Err, subst}
use Rattle.std.specs.List.{AllByRecursion}
use Rattle.cob_lex.specs.declared.text.Mark.{Mark}
use Rattle.cob_lex.specs.declared.refusal.Place as text
use Rattle.cob_lex.specs.Text.{source_text}
use Rattle.cob_tree.specs.declared.keyword.Keyword.{Keyword}
use Rattle.cob_tree.specs.declared.token.Tok.{Tok}
use Rattle.cob_tree.specs.declared.token.Tok.TheVariants as tok
use Rattle.cob_tree.specs.declared.token.Token.{Token}
use Rattle.cob_tree.specs.Keywords.{keyword_of}
use Rattle.cob_tree.specs.Symbols.{word_symbol, symbol_of, seen}
use Rattle.cob_tree.specs.Items.{Item}
use Rattle.cob_tree.specs.PrintStmt.{print_tree}
use Rattle.cob_tree.specs.Stmt.{Tree}
use Rattle.reading.specs.Printing.{Matches}
use Rattle.cob_parse_expr.specs.LexemeClasses.{by_symbol}
use Rattle.cob_lex.specs.Scan.{BadLineAt, Tokens, ScansBy, Scans}
use Rattle.cob_well_formed.specs.Tokens.{IsShortTok, IsShortToken}
use Rattle.cob_well_formed.proofs.ShortTokens.{short_tokens}
use Rattle.cob_well_formed.specs.Numerals.{IsShortSymbol, AreShort, HasShortNumerals}
use Rattle.cob_front.specs.Source.{StandsFor}

-- ---- from bytes to tokens

abbrev AreShortTokens : List Token → Type 0
AreShortTokens ts = AllByRecursion IsShortToken ts

text_short : (r : Result (List Mark) text.Place) (ts : List Token) → ScansBy r (Tokens ts) → AreShortTokens ts
text_short (Ok marks) ts are = short_tokens marks ts are
text_short (Err bad) ts are = absurd (unlike ts bad.line bad.column are)
  where
    unlike : (ts : List Token) (line column : ℕ) → Tokens ts ≡ BadLineAt line column → ⊥
    unlike ts line column e = cc

scanned_short : (bytes : List ℕ) (ts : List Token) → Scans bytes (Tokens ts) → AreShortTokens ts
scanned_short bytes ts scanned = text_short (source_text bytes) ts scanned

-- ---- from tokens to the tree that they spell

word_short : (text : List ℕ) (found : Option Keyword) → IsShortSymbol (word_symbol text found)
word_short text None = tt
word_short text (Some k) = tt

symbol_short : (t : Tok) → IsShortTok t → IsShortSymbol (symbol_of t)
symbol_short (tok.Word text) short = word_short text (keyword_of text)
symbol_short (tok.Number n) short = short
symbol_short (tok.Text text) short = tt
symbol_short (tok.Mark m) short = tt
symbol_short (tok.Relation r) short = tt
symbol_short (tok.Pic text) short = tt
symbol_short tok.Stop short = tt

spelled_short : (items : List Item) (ts : List Token) → Matches by_symbol items (map seen ts) → AreShortTokens ts →
    AreShort items
spelled_short [] [] spells short = tt
spelled_short [] (t ∷ ts) spells short = absurd spells
spelled_short (i ∷ items) [] spells short = absurd spells
spelled_short (i ∷ items) (t ∷ ts) spells short = (
  subst IsShortSymbol spells.0.symbol (symbol_short t.tok short.0),
  spelled_short items ts spells.1 short.1,
)

pub short_tree : (bytes : List ℕ) (t : Tree) → StandsFor bytes t → HasShortNumerals t
short_tree bytes t stands =
    spelled_short (print_tree t) stands.tokens stands.parsed.spells
    (scanned_short bytes stands.tokens stands.has.scanned)
