-- How the scanner looks at characters: by classes, in runs, and through literals.
use Rattle.std.specs.Prelude.{ℕ, ◌+◌, ◌-◌, Bool, not, ◌&&◌, ◌||◌, ◌==◌, if◌then◌else◌, List, [], ◌∷◌, length, take, drop, Option, Some, None, false}
use Rattle.std.specs.List.{position}
use Rattle.std.specs.Option.{option_map, unwrap_or}
use Rattle.cob_lex.specs.declared.text.Mark.{Mark}
use Rattle.cob_lex.specs.declared.mark.Class.{Class}
use Rattle.cob_lex.specs.declared.mark.Class.TheVariants.{Space, Comma, Point, Plus, Single, EqualSign, LessSign, GreaterSign, QuotationMark, Run, Other}
use Rattle.cob_lex.specs.Characters.{ch_at, is_word_character, goes_on, is_point_comma_semicolon}

abbrev pub class_of : ℕ → Class
class_of ch =
    if ch == 32 then Space
    else if ch == 44 || ch == 59 then Comma
    else if ch == 46 then Point
    else if ch == 43 then Plus
    else if ch == 40 || ch == 41 || ch == 42 || ch == 47 then Single
    else if ch == 61 then EqualSign
    else if ch == 60 then LessSign
    else if ch == 62 then GreaterSign
    else if ch == 34 || ch == 39 then QuotationMark
    else if is_word_character ch then Run
    else Other

-- how long the run of letters, digits, hyphens and inner points at the beginning of the text is
unfoldable pub run_len : List Mark → ℕ
run_len [] = 0
run_len (m ∷ ms) = if goes_on (m ∷ ms) then 1 + run_len ms else 0

abbrev pub run_of : List Mark → List Mark
run_of text = take (run_len text) text

-- The state within a literal: `half` says that the last character was its quotation mark, which closes the
-- literal unless the next character is that mark again.
abbrev pub is_closed : ℕ → Bool → List Mark → Bool
is_closed quote half text = half && not (ch_at text 0 == quote)

abbrev pub half_behind : ℕ → Bool → List Mark → Bool
half_behind quote half text = not half && ch_at text 0 == quote

abbrev pub is_second : ℕ → Bool → List Mark → Bool
is_second quote half text = half && ch_at text 0 == quote

abbrev pub closed_at : Bool → ℕ → Option ℕ
closed_at half count = if half then Some count else None

-- how many characters there are through the mark that closes a literal
unfoldable pub literal_len : ℕ → Bool → List Mark → Option ℕ
literal_len quote half [] = closed_at half 0
literal_len quote half (m ∷ ms) =
    if is_closed quote half (m ∷ ms) then Some 0
    else option_map (λ n. n + 1) (literal_len quote (half_behind quote half (m ∷ ms)) ms)

-- the characters of a literal's inside, where doubled marks count as one
unfoldable pub undoubled : ℕ → Bool → List Mark → List ℕ
undoubled quote half [] = []
undoubled quote half (m ∷ ms) =
    if is_second quote half (m ∷ ms) then undoubled quote (half_behind quote half (m ∷ ms)) ms
    else m.ch ∷ undoubled quote (half_behind quote half (m ∷ ms)) ms

-- what one character of a literal's inside gives
abbrev pub undoubled_one : ℕ → Bool → List Mark → List ℕ
undoubled_one quote half text = if is_second quote half text then [] else ch_at text 0 ∷ []

-- what stands between the first and the last character
abbrev pub inside : List Mark → List Mark
inside front = take (length front - 2) (drop 1 front)

-- the characters that a literal with its marks stands for
abbrev pub content : List Mark → List ℕ
content front = undoubled (ch_at front 0) false (inside front)

abbrev pub is_space : Mark → Bool
is_space m = m.ch == 32

abbrev pub first_space : List Mark → Option ℕ
first_space text = position is_space text

-- how long the text is up to its first space
abbrev pub solid_len : List Mark → ℕ
solid_len text = unwrap_or (first_space text) (length text)

-- a text without a point, comma or semicolon at its end
abbrev pub stripped : List Mark → List Mark
stripped front =
    if is_point_comma_semicolon (ch_at front (length front - 1)) then take (length front - 1) front else front
