-- The rewriting of raw tokens: rows of words, then relations in words, then leading zeros.
use Rattle.std.specs.Prelude.{ℕ, ◌-◌, zero, suc, Bool, true, false, ◌&&◌, ◌==◌, if◌then◌else◌, List, [], ◌∷◌, ◌++◌, slice_index_or, Option, Some, None}
use Rattle.cob_tree.specs.declared.token.Rel.{Rel}
use Rattle.cob_tree.specs.declared.token.Rel.TheVariants.{AtLeast, AtMost}
use Rattle.cob_tree.specs.declared.token.Rel.TheVariants as relation
use Rattle.cob_tree.specs.declared.keyword.Keyword.{Keyword}
use Rattle.cob_tree.specs.declared.keyword.Keyword.TheVariants.{Record, Contains, RecordSize, File, Status, Go, To, Assign, End, Program, EndProgram, Picture, Pic, Through, Thru, In, Of, Id, Identification, Comp, Computational, Binary, Comp3, Computational3, PackedDecimal, Zeros, Zeroes, Zero, Spaces, Space, Quotes, Quote, HighValues, HighValue, LowValues, LowValue, Values, Value, Is, Are, Than, Then, On, At, With, Mode, Character, Characters, Records, Next, Usage, Sign, Greater, Less, Equal, Or}
use Rattle.cob_lex.specs.declared.cut.Shape.{Shape}
use Rattle.cob_lex.specs.declared.cut.Shape.TheVariants.{Word, Number, Padded, Relation, Stop}
use Rattle.cob_lex.specs.declared.piece.Piece.{Piece}
use Rattle.cob_lex.specs.declared.row.Fate.{Fate}
use Rattle.cob_lex.specs.declared.row.Fate.TheVariants.{Keep, Becomes, Dropped}
use Rattle.cob_lex.specs.declared.row.Row.{Row}
use Rattle.cob_lex.specs.declared.row.Compared.{Compared}
use Rattle.cob_lex.specs.Tokens.{keyword}

-- what a row of one word makes of it
abbrev pub fate_of : Option Keyword → Fate
fate_of (Some Picture) = Becomes Pic
fate_of (Some Through) = Becomes Thru
fate_of (Some In) = Becomes Of
fate_of (Some Id) = Becomes Identification
fate_of (Some Comp) = Becomes Binary
fate_of (Some Computational) = Becomes Binary
fate_of (Some Comp3) = Becomes PackedDecimal
fate_of (Some Computational3) = Becomes PackedDecimal
fate_of (Some Zeros) = Becomes Zero
fate_of (Some Zeroes) = Becomes Zero
fate_of (Some Spaces) = Becomes Space
fate_of (Some Quotes) = Becomes Quote
fate_of (Some HighValues) = Becomes HighValue
fate_of (Some LowValues) = Becomes LowValue
fate_of (Some Values) = Becomes Value
fate_of (Some Is) = Dropped
fate_of (Some Are) = Dropped
fate_of (Some Than) = Dropped
fate_of (Some Then) = Dropped
fate_of (Some On) = Dropped
fate_of (Some At) = Dropped
fate_of (Some With) = Dropped
fate_of (Some Mode) = Dropped
fate_of (Some Contains) = Dropped
fate_of (Some Character) = Dropped
fate_of (Some Characters) = Dropped
fate_of (Some Record) = Dropped
fate_of (Some Records) = Dropped
fate_of (Some Next) = Dropped
fate_of (Some Usage) = Dropped
fate_of (Some Sign) = Dropped
fate_of _ = Keep

-- what two words become that are a row
abbrev pub pair_of : Option Keyword → Option Keyword → Option Keyword
pair_of (Some Record) (Some Contains) = Some RecordSize
pair_of (Some File) (Some Status) = Some Status
pair_of (Some Go) (Some To) = Some Go
pair_of (Some Assign) (Some To) = Some Assign
pair_of (Some End) (Some Program) = Some EndProgram
pair_of _ _ = None

abbrev pub pair_or : Option Keyword → Fate → Row
pair_or (Some pair) alone = record { fate = Becomes pair; words = 2 }
pair_or None alone = record { fate = alone; words = 1 }

-- the row for a word and the token behind it: a row of two words goes before one of one word
abbrev pub row_of : Option Keyword → Option Keyword → Row
row_of word behind = pair_or (pair_of word behind) (fate_of word)

-- stands for no token
abbrev pub nothing : Piece
nothing = record { shape = Stop; start = 0; length = 0; line = 0; column = 0 }

-- the reserved word at this place of a list of tokens, from 0
abbrev pub keyword_at : List Piece → ℕ → Option Keyword
keyword_at ps k = keyword (slice_index_or ps k nothing).shape

-- the first token
abbrev pub head : List Piece → Piece
head ps = slice_index_or ps 0 nothing

-- the row at the beginning of a list of tokens
abbrev pub row_at : List Piece → Row
row_at ps = row_of (keyword_at ps 0) (keyword_at ps 1)

abbrev pub shaped : Shape → Piece → Piece
shaped shape p = record p { shape = shape }

abbrev pub fated : Fate → Piece → List Piece
fated Keep p = p ∷ []
fated (Becomes word) p = shaped (Word (Some word)) p ∷ []
fated Dropped p = []

-- The tokens after the rows of words, of which so many belong to the row before. What two words become stands
-- where the first of them stood.
unfoldable pub reworded : ℕ → List Piece → List Piece
reworded n [] = []
reworded (suc n) (p ∷ ps) = reworded n ps
reworded zero (p ∷ ps) =
    fated (row_at (p ∷ ps)).fate p ++ reworded ((row_at (p ∷ ps)).words - 1) ps

-- `OR EQUAL TO` and `OR EQUAL` behind GREATER or LESS
abbrev pub weakened : Rel → Rel → Option Keyword → Option Keyword → Option Keyword → Compared
weakened strict weak (Some Or) (Some Equal) (Some To) = record { relation = weak; words = 4 }
weakened strict weak (Some Or) (Some Equal) _ = record { relation = weak; words = 3 }
weakened strict weak _ _ _ = record { relation = strict; words = 1 }

-- `EQUAL TO` and `EQUAL`
abbrev pub equal : Option Keyword → Compared
equal (Some To) = record { relation = relation.Equal; words = 2 }
equal _ = record { relation = relation.Equal; words = 1 }

-- the relation that stands in words, if the first of these words begins one
abbrev pub comparison : Option Keyword → Option Keyword → Option Keyword → Option Keyword → Option Compared
comparison (Some Greater) second third fourth = Some (weakened relation.Greater AtLeast second third fourth)
comparison (Some Less) second third fourth = Some (weakened relation.Less AtMost second third fourth)
comparison (Some Equal) second third fourth = Some (equal second)
comparison _ _ _ _ = None

abbrev pub compared_at : List Piece → Option Compared
compared_at ps = comparison (keyword_at ps 0) (keyword_at ps 1) (keyword_at ps 2) (keyword_at ps 3)

abbrev pub words_of : Option Compared → ℕ
words_of None = 1
words_of (Some c) = c.words

abbrev pub relation_or : Option Compared → Piece → Piece
relation_or None p = p
relation_or (Some c) p = shaped (Relation c.relation) p

-- the tokens after the rows of relations, of which so many belong to the row before
unfoldable pub related : ℕ → List Piece → List Piece
related n [] = []
related (suc n) (p ∷ ps) = related n ps
related zero (p ∷ ps) =
    relation_or (compared_at (p ∷ ps)) p ∷ related (words_of (compared_at (p ∷ ps)) - 1) ps

abbrev pub is_stop : Shape → Bool
is_stop Stop = true
is_stop _ = false

-- a number of one character is one digit, without sign and point
abbrev pub is_digit_alone : Shape → ℕ → Bool
is_digit_alone Number n = n == 1
is_digit_alone _ n = false

abbrev pub padded_one : Bool → Piece → Piece
padded_one behind_stop p =
    if behind_stop && is_digit_alone p.shape p.length then shaped Padded p else p

-- the tokens after leading zeros; `behind_stop` says that a Stop stands before
unfoldable pub padded : Bool → List Piece → List Piece
padded behind_stop [] = []
padded behind_stop (p ∷ ps) = padded_one behind_stop p ∷ padded (is_stop p.shape) ps

-- the whole rewriting
abbrev pub rewritten : List Piece → List Piece
rewritten ps = padded false (related 0 (reworded 0 ps))
