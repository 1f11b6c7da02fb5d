-- What is known of raw tokens: of a word, which reserved word it is.
use Rattle.std.specs.Prelude.{◌≡◌, List, Option, None, Some}
use Rattle.std.specs.List.{AllByRecursion}
use Rattle.cob_tree.specs.declared.keyword.Keyword.{Keyword}
use Rattle.cob_lex.specs.declared.text.Mark.{Mark}
use Rattle.cob_lex.specs.declared.cut.Shape.{Shape}
use Rattle.cob_lex.specs.declared.cut.Shape.TheVariants.{Word, Number, Padded, Literal, Symbol, Relation, Stop, PictureString}
use Rattle.cob_lex.specs.declared.piece.Piece.{Piece}
use Rattle.cob_lex.specs.Words.{spelled_keyword}
use Rattle.cob_lex.specs.Canonical.{characters_of}

-- a word of which none is told is no reserved word
abbrev pub IsKnownWord : Option Keyword → List Mark → Type 0
IsKnownWord None front = spelled_keyword front ≡ None
IsKnownWord (Some keyword) front = Unit {0}

abbrev pub IsKnown : Shape → List Mark → Type 0
IsKnown (Word word) front = IsKnownWord word front
IsKnown Number front = Unit {0}
IsKnown Padded front = Unit {0}
IsKnown Literal front = Unit {0}
IsKnown Symbol front = Unit {0}
IsKnown (Relation r) front = Unit {0}
IsKnown Stop front = Unit {0}
IsKnown PictureString front = Unit {0}

abbrev pub IsKnownPiece : List Mark → Piece → Type 0
IsKnownPiece text p = IsKnown p.shape (characters_of text p)

abbrev pub AreKnown : List Mark → List Piece → Type 0
AreKnown text ps = AllByRecursion (IsKnownPiece text) ps
