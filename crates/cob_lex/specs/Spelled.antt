-- A text spelled by tokens and separators, one behind the other; and one that goes no further than a place.
use Rattle.std.specs.Prelude.{◌≡◌, ℕ, ◌+◌, ◌<◌, Bool, false, List, [], ◌∷◌, ◌++◌, length, Option, Some, None}
use Rattle.reading.specs.Fronts.{NoFurther}
use Rattle.cob_lex.specs.declared.text.Mark.{Mark}
use Rattle.cob_lex.specs.declared.cut.Shape.{Shape}
use Rattle.cob_lex.specs.declared.cut.Due.{Due}
use Rattle.cob_lex.specs.declared.cut.Due.TheVariants.{Nothing}
use Rattle.cob_lex.specs.declared.piece.Piece.{Piece}
use Rattle.cob_lex.specs.declared.piece.Place.{Place}
use Rattle.cob_lex.specs.Characters.{first, last_ch}
use Rattle.cob_lex.specs.Tokens.{Stands, due_after, is_opening}

-- a token with its shape, or a separator, which has none
pub record Part : Type 0 where
  pub front : List Mark
  pub shape : Option Shape

abbrev pub text_of : List Part → List Mark
text_of [] = []
text_of (p ∷ ps) = p.front ++ text_of ps

-- each of these stands behind the one before, and `left` behind the last
abbrev pub StandBehind : Bool → Due → List Part → List Mark → Type 0
StandBehind free due [] left = Unit {0}
StandBehind free due (p ∷ ps) left =
    Stands free due p.front (text_of ps ++ left) p.shape
    × StandBehind (is_opening (last_ch p.front)) (due_after due p.shape) ps left

-- so they stand at the beginning of a text, before which there is no space
abbrev pub Stand : List Part → List Mark → Type 0
Stand ps left = StandBehind false Nothing ps left

abbrev pub place : ℕ → ℕ → Place
place line column = record { line = line; column = column }

abbrev pub place_of : Mark → Place
place_of m = place m.line m.column

-- the token that begins with this character of the text, counted from 0; none for a separator
abbrev pub piece_list : ℕ → Mark → ℕ → Option Shape → List Piece
piece_list start m n None = []
piece_list start m n (Some shape) =
    (record { shape = shape; start = start; length = n; line = m.line; column = m.column }) ∷ []

-- the raw tokens among them; the first character stands at this place of the text, from 0
abbrev pub pieces : ℕ → List Part → List Piece
pieces start [] = []
pieces start (p ∷ ps) =
    piece_list start (first p.front) (length p.front) p.shape ++ pieces (start + length p.front) ps

-- the whole text is spelled so
pub record IsSpelled (text : List Mark) (parts : List Part) : Type 0 where
  pub whole : text ≡ text_of parts
  pub stand : Stand parts []

-- The text is spelled so up to this place, where neither a token nor a separator stands behind what stands before.
pub record IsStopped (text : List Mark) (place : Place) : Type 0 where
  pub parts : List Part
  pub left : List Mark
  pub whole : text ≡ text_of parts ++ left
  pub stand : Stand parts left
  pub some : 0 < length left
  pub no_further : NoFurther (λ (p : Part). p.front) Stand parts left
  pub place_is : place ≡ place_of (first left)
