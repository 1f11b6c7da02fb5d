-- What reading the divisions before PROCEDURE promises, in the terms of trees and their texts.
use Rattle.std.specs.Prelude.{◌≡◌, ℕ, ◌≤◌, List, ◌++◌, length}
use Rattle.cob_tree.specs.declared.token.Token.{Token}
use Rattle.cob_tree.specs.declared.front.Front.{Front}
use Rattle.cob_tree.specs.Symbols.{Sign}
use Rattle.cob_tree.specs.PrintFront.{print_front}
use Rattle.cob_tree.specs.Shaped.{ShapedFront}
use Rattle.reading.specs.Printing.{Matches, Next}
use Rattle.reading.specs.Fronts.{NoFurther, one}
use Rattle.cob_parse_expr.specs.Alphabet.{grammar}
use Rattle.cob_parse_expr.specs.Places.{from, line_at}
use Rattle.cob_parse_expr.specs.LexemeClasses.{by_symbol}
use Rattle.cob_parse_data.specs.Takes.{takes_front}

-- the tokens are the text of these divisions
pub record IsFront (f : Front) (text : List Sign) : Type 0 where
  pub shaped : ShapedFront f
  pub spells : Matches grammar (print_front f) text

-- they don't go on with what stands there
abbrev pub Ends : Front → List Sign → Type 0
Ends f rest = Next by_symbol (takes_front f) rest

-- the text of some divisions begins so
pub record Begins (read : List Sign) : Type 0 where
  pub front : Front
  pub more : List Sign
  pub whole : IsFront front (read ++ more)

-- The tokens are a text of these divisions, and what is left behind it, with which they don't go on; and no other
-- text is longer.
pub record IsRead (ts : List Sign) (f : Front) (rest : List Sign) : Type 0 where
  pub text : List Sign
  pub parts : ts ≡ text ++ rest
  pub whole : IsFront f text
  pub ends : Ends f rest
  pub longest : (g : Front) (text' rest' : List Sign) → ts ≡ text' ++ rest' → IsFront g text' → length rest ≤ length rest'

-- Nothing is read, and what is left is where nothing goes on: some text begins with the tokens before, and none with
-- these and the next.
pub record Stops (ts left : List Sign) : Type 0 where
  pub none : (f : Front) (text rest : List Sign) → ts ≡ text ++ rest → IsFront f text → Ends f rest → ⊥
  pub read : List Sign
  pub parts : ts ≡ read ++ left
  pub begins : Begins read
  pub no_further : NoFurther one (λ front rest. Begins front) read left

-- Nothing is read from a place on, and the line is that of the first token at which nothing goes on.
pub record IsWrong (tokens : List Token) (place line : ℕ) : Type 0 where
  pub left : List Sign
  pub stops : Stops (from tokens place) left
  pub line_is : line ≡ line_at tokens (length left)
