-- How the scanner reads the raw tokens of a text from left to right, up to the first place at which it cuts off none.
use Rattle.std.specs.Prelude.{◌≡◌, ℕ, ◌+◌, ◌-◌, zero, suc, false, List, [], ◌∷◌, ◌++◌, Option, Some, None, Result, Ok, Err}
use Rattle.std.specs.Global.{Vec}
use Rattle.cob_lex.specs.declared.text.Mark.{Mark}
use Rattle.cob_lex.specs.declared.cut.Due.TheVariants.{Nothing}
use Rattle.cob_lex.specs.declared.cut.State.{State}
use Rattle.cob_lex.specs.declared.cut.Cut.{Cut}
use Rattle.cob_lex.specs.declared.piece.Piece.{Piece}
use Rattle.cob_lex.specs.declared.piece.Place.{Place}
use Rattle.cob_lex.specs.declared.LexEnd.{LexEnd}
use Rattle.cob_lex.specs.declared.LexEnd.TheVariants.{BadToken, Memory}
use Rattle.cob_lex.specs.Cuts.{cut, after}
use Rattle.cob_lex.specs.Spelled.{place, place_of, piece_list}

abbrev pub prefixed : List Piece → Result (List Piece) Place → Result (List Piece) Place
prefixed ps (Ok qs) = Ok (ps ++ qs)
prefixed ps (Err refused) = Err refused

-- A token or separator, and then what follows it; without one the place is refused.
abbrev pub begun : ℕ → Mark → Option Cut → (Cut → Result (List Piece) Place) → Result (List Piece) Place
begun start m None next = Err (place_of m)
begun start m (Some c) next = prefixed (piece_list start m c.length c.shape) (next c)

-- the tokens of a text, of which so many characters belong to the token before
unfoldable pub read : ℕ → State → ℕ → List Mark → Result (List Piece) Place
read start s n [] = Ok []
read start s (suc n) (m ∷ ms) = read (start + 1) s n ms
read start s zero (m ∷ ms) =
    begun start m (cut s (m ∷ ms)) (λ c. read (start + 1) (after s c (m ∷ ms)) (c.length - 1) ms)

-- The state at the beginning of a text: no space stands before.
abbrev pub beginning : State
beginning = record { free = false; due = Nothing }

-- the raw tokens of a text, or the first place at which no token begins or ends rightly
abbrev pub raw_tokens : List Mark → Result (List Piece) Place
raw_tokens text = read 0 beginning 0 text

-- the call gives what is wanted, or memory ran out
abbrev pub Gives : Result (List Piece) Place → Result (Vec Piece) LexEnd → Type 0
Gives wanted (Ok pieces) = wanted ≡ Ok pieces.items
Gives wanted (Err (BadToken line column)) = wanted ≡ Err (place line column)
Gives wanted (Err Memory) = Unit {0}
