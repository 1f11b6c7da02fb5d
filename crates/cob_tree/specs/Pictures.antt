-- Pictures: the symbols that spell one, and the item that it describes.
use Rattle.std.specs.Prelude.{◌≡◌, ◌==◌, ℕ, ◌+◌, ◌≤◌, nat_le, Bool, true, false, not, ◌&&◌, ◌||◌, IsTrue, List, [], ◌∷◌, ◌++◌, length, drop, replicate, count_by, slice_index, Option, Some, None, IfSome}
use Rattle.std.specs.List.{list_all, list_any, position, AllByRecursion}
use Rattle.std.specs.Char.{is_ascii_digit, to_ascii_uppercase}
use Rattle.std.specs.Str.Parse.{digits_value}
use Rattle.cob_tree.specs.declared.form.Form.{Form}
use Rattle.cob_tree.specs.declared.form.Form.TheVariants.{Group, Text, Number, Edited}
use Rattle.cob_tree.specs.declared.form.Usage.{Usage}
use Rattle.cob_tree.specs.declared.form.Usage.TheVariants.{Display}

-- 9, S and V
abbrev pub is_numeric_symbol : ℕ → Bool
is_numeric_symbol c = c == 57 || c == 83 || c == 86

-- 9 and X
abbrev pub is_alphanumeric_symbol : ℕ → Bool
is_alphanumeric_symbol c = c == 57 || c == 88

-- 9 and Z are the places of digits
abbrev pub is_place : ℕ → Bool
is_place c = c == 57 || c == 90

-- 9, Z, the comma, B, 0, / and the point
abbrev pub is_edited_symbol : ℕ → Bool
is_edited_symbol c = is_place c || c == 44 || c == 66 || c == 48 || c == 47 || c == 46

abbrev pub is_symbol : ℕ → Bool
is_symbol c = is_numeric_symbol c || is_alphanumeric_symbol c || is_edited_symbol c

-- A symbol as it stands in a picture: its character, and the digits in the parentheses behind it, if there are any.
pub record Symbol : Type 0 where
  pub character : ℕ
  pub count : Option (List ℕ)

-- a count has any number of decimal digits, and is 1 at least
pub record IsCount (digits : List ℕ) : Type 0 where
  pub decimal : IsTrue (list_all is_ascii_digit digits)
  pub some : 1 ≤ digits_value 10 digits

-- symbols count in either case
pub record IsSymbol (s : Symbol) : Type 0 where
  pub character : IsTrue (is_symbol (to_ascii_uppercase s.character))
  pub count : IfSome s.count IsCount

-- how a count is spelled
abbrev pub parenthesized : Option (List ℕ) → List ℕ
parenthesized None = []
parenthesized (Some digits) = 40 ∷ digits ++ 41 ∷ []

-- how often a symbol stands where it is written out
abbrev pub times : Option (List ℕ) → ℕ
times None = 1
times (Some digits) = digits_value 10 digits

abbrev pub spelled : List Symbol → List ℕ
spelled [] = []
spelled (s ∷ ss) = s.character ∷ parenthesized s.count ++ spelled ss

-- symbols in capitals, with their repetitions written out
abbrev pub written_out : List Symbol → List ℕ
written_out [] = []
written_out (s ∷ ss) = replicate (times s.count) (to_ascii_uppercase s.character) ++ written_out ss

-- the text is spelled by symbols that are this word where they are written out
pub record Spells (text word : List ℕ) : Type 0 where
  pub symbols : List Symbol
  pub allowed : AllByRecursion IsSymbol symbols
  pub spells : text ≡ spelled symbols
  pub writes : word ≡ written_out symbols

abbrev pub has : ℕ → List ℕ → Bool
has symbol word = list_any (λ c. c == symbol) word

abbrev pub symbol_count : ℕ → List ℕ → ℕ
symbol_count symbol word = count_by (λ c. c == symbol) word

abbrev pub behind : Option ℕ → List ℕ → List ℕ
behind None word = []
behind (Some place) word = drop (place + 1) word

-- what stands behind the first such symbol, or nothing where there is none
abbrev pub behind_first : ℕ → List ℕ → List ℕ
behind_first symbol word = behind (position (λ c. c == symbol) word) word

abbrev pub begins_with : ℕ → List ℕ → Bool
begins_with symbol word = slice_index word 0 == symbol

abbrev pub place_count : List ℕ → ℕ
place_count word = count_by is_place word

-- 1 to 18 digits
abbrev pub is_digit_count : ℕ → Bool
is_digit_count n = nat_le 1 n && nat_le n 18

-- symbols X and 9, with an X at least
abbrev pub is_alphanumeric : List ℕ → Bool
is_alphanumeric word = list_all is_alphanumeric_symbol word && has 88 word

-- no 9 stands before a Z, and with a Z behind the point there is no 9
abbrev pub suppresses_rightly : List ℕ → Bool
suppresses_rightly word = not (has 90 (behind_first 57 word)) && not (has 90 (behind_first 46 word) && has 57 word)

-- A Z, where there is one, is the first symbol, and zeros are suppressed rightly.
abbrev pub may_suppress : List ℕ → Bool
may_suppress word = not (has 90 word) || (begins_with 90 word && suppresses_rightly word)

-- a symbol other than 9, and one point at most
abbrev pub is_inserted_rightly : List ℕ → Bool
is_inserted_rightly word = list_any (λ c. not (c == 57)) word && nat_le (symbol_count 46 word) 1

-- symbols 9, Z, the comma, B, 0, / and the point, with 1 to 18 of the first two
abbrev pub is_edited : List ℕ → Bool
is_edited word =
    list_all is_edited_symbol word && is_inserted_rightly word && is_digit_count (place_count word) && may_suppress word

-- the greatest number of bytes of an item
abbrev pub most_bytes : ℕ
most_bytes = 1048576

-- an alphanumeric item of a byte for each symbol
pub record IsTextForm (word : List ℕ) (bytes : ℕ) : Type 0 where
  pub allowed : IsTrue (is_alphanumeric word)
  pub bytes_are : bytes ≡ length word
  pub within : bytes ≤ most_bytes

-- S, or nothing
abbrev pub sign_symbols : Bool → List ℕ
sign_symbols true = 83 ∷ []
sign_symbols false = []

-- V and so many nines, or nothing
abbrev pub decimal_symbols : Option ℕ → List ℕ
decimal_symbols None = []
decimal_symbols (Some n) = 86 ∷ replicate n 57

abbrev pub decimals : Option ℕ → ℕ
decimals None = 0
decimals (Some n) = n

-- A numeric item: an S if it has a sign, then nines, then a V and the nines of its decimals, or neither; 1 to 18 nines
-- in all.
pub record IsNumberForm (word : List ℕ) (digits scale : ℕ) (signed : Bool) (usage : Usage) : Type 0 where
  pub whole : ℕ
  pub point : Option ℕ
  pub symbols : word ≡ sign_symbols signed ++ (replicate whole 57 ++ decimal_symbols point)
  pub digits_are : digits ≡ whole + decimals point
  pub scale_is : scale ≡ decimals point
  pub allowed : IsTrue (is_digit_count digits)
  pub usage_is : usage ≡ Display

-- An edited item of a byte for each symbol, with a digit for each place, those behind the point being decimals.
pub record IsEditedForm (word picture : List ℕ) (digits scale : ℕ) : Type 0 where
  pub allowed : IsTrue (is_edited word)
  pub picture_is : picture ≡ word
  pub digits_are : digits ≡ place_count word
  pub scale_is : scale ≡ place_count (behind_first 46 word)
  pub within : length word ≤ most_bytes

-- the form of the item that a word of symbols describes
abbrev pub IsForm : List ℕ → Form → Type 0
IsForm word Group = ⊥
IsForm word (Text bytes) = IsTextForm word bytes
IsForm word (Number digits scale signed usage) = IsNumberForm word digits scale signed usage
IsForm word (Edited picture digits scale) = IsEditedForm word picture digits scale

-- the text is an allowed picture of an item of this form
pub record IsPicture (text : List ℕ) (form : Form) : Type 0 where
  pub word : List ℕ
  pub spelled_by : Spells text word
  pub describes : IsForm word form

-- 1 to 18 digits, of which so many at most are decimals
pub record AreDigits (digits scale : ℕ) : Type 0 where
  pub some : 1 ≤ digits
  pub at_most_18 : digits ≤ 18
  pub decimals : scale ≤ digits

-- an edited picture, written out, that has these places of digits
pub record HasPlaces (picture : List ℕ) (digits scale : ℕ) : Type 0 where
  pub edited : IsTrue (is_edited picture)
  pub places : place_count picture ≡ digits
  pub decimals : place_count (behind_first 46 picture) ≡ scale
  pub within : length picture ≤ most_bytes

-- what holds of a form with a picture
abbrev pub IsAllowed : Form → Type 0
IsAllowed Group = ⊥
IsAllowed (Text bytes) = (1 ≤ bytes) × (bytes ≤ most_bytes)
IsAllowed (Number digits scale signed usage) = AreDigits digits scale
IsAllowed (Edited picture digits scale) = AreDigits digits scale × HasPlaces picture digits scale
