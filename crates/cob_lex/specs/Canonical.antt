-- The canonical tokens of a text.
use Rattle.std.specs.Prelude.{◌≡◌, ℕ, ◌-◌, min, if◌then◌else◌, List, ◌∷◌, map, length, take, drop, Option, Some, None}
use Rattle.std.specs.List.{filter, position}
use Rattle.cob_lex.specs.declared.text.Mark.{Mark}
use Rattle.cob_tree.specs.declared.keyword.Keyword.{Keyword}
use Rattle.cob_tree.specs.declared.token.Num.{Num}
use Rattle.cob_tree.specs.declared.token.Tok.{Tok}
use Rattle.cob_tree.specs.declared.token.Tok.TheVariants as tok
use Rattle.cob_tree.specs.declared.token.Token.{Token}
use Rattle.cob_tree.specs.Keywords.{text_of}
use Rattle.cob_lex.specs.declared.LexEnd.{LexEnd}
use Rattle.cob_lex.specs.declared.LexEnd.TheVariants.{BadToken, Memory}
use Rattle.cob_lex.specs.declared.cut.Shape.{Shape}
use Rattle.cob_lex.specs.declared.cut.Shape.TheVariants.{Word, Number, Padded, Literal, Symbol, Relation, Stop, PictureString}
use Rattle.cob_lex.specs.declared.piece.Piece.{Piece}
use Rattle.cob_lex.specs.declared.piece.Place.{Place}
use Rattle.cob_lex.specs.Marks.{content}
use Rattle.cob_lex.specs.Words.{raised}
use Rattle.cob_lex.specs.Characters.{ch_at, characters, is_sign}
use Rattle.cob_lex.specs.Tokens.{is_digit_mark, is_point}
use Rattle.cob_lex.specs.Spelled.{Part, IsSpelled, pieces, place}
use Rattle.cob_lex.specs.Rows.{rewritten}

-- a reserved word is written by its text, any other word as it stands, in capitals
abbrev pub written : Option Keyword → List Mark → List ℕ
written (Some keyword) front = text_of keyword
written None front = raised front

abbrev pub digits : List Mark → List ℕ
digits front = map (λ m. m.ch) (filter is_digit_mark front)

abbrev pub sign : List Mark → ℕ
sign front = if is_sign (ch_at front 0) then ch_at front 0 else 0

abbrev pub point : List Mark → Option ℕ
point front = position is_point front

-- how many characters stand behind a point; a number has 18 at most
abbrev pub scale : Option ℕ → ℕ → ℕ
scale None count = 0
scale (Some k) count = min (count - k - 1) 18

abbrev pub number : List ℕ → List Mark → Num
number spelled front = record { sign = sign front; digits = spelled; scale = scale (point front) (length front) }

-- What a token of this shape is, from its characters. The content of a text is what stands doubled between its marks
-- (the law `texts_stand_doubled`).
abbrev pub tok_of : Shape → List Mark → Tok
tok_of (Word word) front = tok.Word (written word front)
tok_of Number front = tok.Number (number (digits front) front)
tok_of Padded front = tok.Number (number (48 ∷ digits front) front)
tok_of Literal front = tok.Text (content front)
tok_of Symbol front = tok.Mark (ch_at front 0)
tok_of (Relation r) front = tok.Relation r
tok_of Stop front = tok.Stop
tok_of PictureString front = tok.Pic (characters front)

-- the characters of a token
abbrev pub characters_of : List Mark → Piece → List Mark
characters_of text p = take p.length (drop p.start text)

abbrev pub token : List Mark → Piece → Token
token text p = record { tok = tok_of p.shape (characters_of text p); line = p.line; column = p.column }

-- The canonical tokens of a text: those that spell it, rewritten.
pub record AreTokensOf (text : List Mark) (tokens : List Token) : Type 0 where
  pub parts : List Part
  pub spelled : IsSpelled text parts
  pub are : tokens ≡ map (token text) (rewritten (pieces 0 parts))

-- the fact for the place of a bad token; nothing for want of memory
abbrev pub IfBadToken : LexEnd → (Place → Type 0) → Type 0
IfBadToken (BadToken line column) P = P (place line column)
IfBadToken Memory P = Unit {0}
