-- Tokens whose numbers have at most 18 digits (ISO 1989:1985, "Numeric literals").
use Rattle.std.specs.Prelude.{List}
use Rattle.std.specs.List.{AllByRecursion}
use Rattle.cob_lex.specs.declared.text.Mark.{Mark}
use Rattle.cob_tree.specs.declared.token.Tok.{Tok}
use Rattle.cob_tree.specs.declared.token.Tok.TheVariants as tok
use Rattle.cob_tree.specs.declared.token.Token.{Token}
use Rattle.cob_lex.specs.Canonical.{AreTokensOf}
use Rattle.cob_store.specs.WellFormed.{IsShortLiteral}

abbrev pub IsShortTok : Tok → Type 0
IsShortTok (tok.Number n) = IsShortLiteral n
IsShortTok _ = Unit {0}

abbrev pub IsShortToken : Token → Type 0
IsShortToken t = IsShortTok t.tok

-- the tokens of each text have such numbers
abbrev pub NumeralsAreShort : Type 0
NumeralsAreShort =
    (text : List Mark) (tokens : List Token) → AreTokensOf text tokens → AllByRecursion IsShortToken tokens
