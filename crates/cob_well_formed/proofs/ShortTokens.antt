-- Each number among the canonical tokens of a text has at most 18 digits.
use Rattle.std.proofs.Common.{◌≡◌, ℕ, ◌≤◌, List, [], ◌∷◌, map, length, Option, None, Some, ◌∙◌, sym, subst, arith}
use Rattle.std.specs.List.{AllByRecursion, filter}
use Rattle.std.proofs.lemmas.List.{length-map}
use Rattle.std.proofs.lemmas.List.Sums.{length-filter}
use Rattle.cob_lex.specs.declared.text.Mark.{Mark}
use Rattle.cob_tree.specs.declared.token.Token.{Token}
use Rattle.cob_lex.specs.declared.cut.Shape.{Shape}
use Rattle.cob_lex.specs.declared.cut.Shape.TheVariants.{Word, Number, Padded, Literal, Symbol, Relation, Stop, PictureString}
use Rattle.cob_lex.specs.declared.piece.Piece.{Piece}
use Rattle.cob_lex.specs.WordTests.{digits_in}
use Rattle.cob_lex.specs.Spelled.{pieces}
use Rattle.cob_lex.specs.Tokens.{is_digit_mark}
use Rattle.cob_lex.specs.Rows.{rewritten}
use Rattle.cob_lex.specs.Canonical.{digits, point, scale, tok_of, characters_of, token, AreTokensOf}
use Rattle.cob_well_formed.specs.Tokens.{IsShortTok, IsShortToken}
use Rattle.cob_lex.proofs.EachToken.{HoldsOfAll, raw_hold, rewritten_hold}
use Rattle.cob_well_formed.proofs.Cutting.{HasFewDigits, rows_few, kept_few}

as_many_digits : (front : List Mark) → length (digits front) ≡ digits_in front
as_many_digits front = length-map (filter is_digit_mark front) (λ m. m.ch) ∙ length-filter is_digit_mark front

short_scale : (place : Option ℕ) (count : ℕ) → scale place count ≤ 18
short_scale None count = omega arith
short_scale (Some k) count = omega arith

short_tok : (shape : Shape) (front : List Mark) → HasFewDigits shape front → IsShortTok (tok_of shape front)
short_tok (Word word) front few = tt
short_tok Number front few = record {
  digits = omega (arith, as_many_digits front);
  decimals = short_scale (point front) (length front);
}
short_tok Padded front few = record {
  digits = omega (arith, as_many_digits front);
  decimals = short_scale (point front) (length front);
}
short_tok Literal front few = tt
short_tok Symbol front few = tt
short_tok (Relation r) front few = tt
short_tok Stop front few = tt
short_tok PictureString front few = tt

all_short : (text : List Mark) (ps : List Piece) → HoldsOfAll text HasFewDigits ps → AllByRecursion IsShortToken (map (token text) ps)
all_short text [] few = tt
all_short text (p ∷ ps) few = (short_tok p.shape (characters_of text p) few.0, all_short text ps few.1)

pub short_tokens : (text : List Mark) (tokens : List Token) → AreTokensOf text tokens →
    AllByRecursion IsShortToken tokens
short_tokens text tokens h =
    let raw = pieces 0 h.parts in
    let few = rewritten_hold text HasFewDigits kept_few raw (raw_hold text HasFewDigits rows_few h.parts h.spelled) in
    subst (AllByRecursion IsShortToken) (sym h.are) (all_short text (rewritten raw) few)
