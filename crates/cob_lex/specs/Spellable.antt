-- Tokens that some characters are.
use Rattle.std.specs.Prelude.{◌≡◌, List}
use Rattle.std.specs.List.{AllByRecursion}
use Rattle.cob_tree.specs.declared.token.Tok.{Tok}
use Rattle.cob_tree.specs.declared.token.Token.{Token}
use Rattle.cob_lex.specs.declared.text.Mark.{Mark}
use Rattle.cob_lex.specs.declared.cut.Shape.{Shape}
use Rattle.cob_lex.specs.declared.cut.Shape.TheVariants.{Word, Number, Padded, Literal, Symbol, Relation, Stop, PictureString}
use Rattle.cob_lex.specs.Words.{spelled_keyword}
use Rattle.cob_lex.specs.Tokens.{IsWord, IsNumber, IsText, IsMark, IsRelation, IsStop, IsPicture}
use Rattle.cob_lex.specs.Canonical.{tok_of, AreTokensOf}

-- by its own characters this is a token of the shape
abbrev pub IsOwn : Shape → List Mark → Type 0
IsOwn (Word word) front = IsWord front × (word ≡ spelled_keyword front)
IsOwn Number front = IsNumber front
IsOwn Padded front = ⊥
IsOwn Literal front = IsText front
IsOwn Symbol front = IsMark front
IsOwn (Relation r) front = IsRelation r front
IsOwn Stop front = IsStop front
IsOwn PictureString front = IsPicture front

pub record IsSpellable (t : Tok) : Type 0 where
  pub shape : Shape
  pub front : List Mark
  pub own : IsOwn shape front
  pub token : tok_of shape front ≡ t

abbrev pub IsSpellableToken : Token → Type 0
IsSpellableToken t = IsSpellable t.tok

abbrev pub AreSpellable : List Token → Type 0
AreSpellable tokens = AllByRecursion IsSpellableToken tokens

-- so are the canonical tokens of each text
abbrev pub CanonicalAreSpellable : Type 0
CanonicalAreSpellable = (text : List Mark) (tokens : List Token) → AreTokensOf text tokens → AreSpellable tokens
