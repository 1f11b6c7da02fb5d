-- Characters of a text, and what may stand behind a token.
use Rattle.std.specs.Prelude.{ℕ, ◌-◌, Bool, ◌&&◌, ◌||◌, ◌==◌, nat_le, List, map, length, slice_index_or}
use Rattle.cob_lex.specs.declared.text.Mark.{Mark}

-- A text counts as followed by a space.
abbrev pub blank : Mark
blank = record { ch = 32; line = 0; column = 0 }

-- the character at this place of a text, from 0
abbrev pub ch_at : List Mark → ℕ → ℕ
ch_at text k = (slice_index_or text k blank).ch

abbrev pub last_ch : List Mark → ℕ
last_ch text = ch_at text (length text - 1)

-- the first character with its place
abbrev pub first : List Mark → Mark
first text = slice_index_or text 0 blank

-- the characters as they stand
abbrev pub characters : List Mark → List ℕ
characters text = map (λ (m : Mark). m.ch) text

abbrev pub is_letter : ℕ → Bool
is_letter ch = (nat_le 65 ch && nat_le ch 90) || (nat_le 97 ch && nat_le ch 122)

abbrev pub is_digit : ℕ → Bool
is_digit ch = nat_le 48 ch && nat_le ch 57

-- letters, digits and the hyphen
abbrev pub is_word_character : ℕ → Bool
is_word_character ch = is_letter ch || is_digit ch || ch == 45

abbrev pub is_sign : ℕ → Bool
is_sign ch = ch == 43 || ch == 45

abbrev pub is_point_comma_semicolon : ℕ → Bool
is_point_comma_semicolon ch = ch == 44 || ch == 46 || ch == 59

-- a separator begins the text: a space, or a comma or semicolon that a space follows
abbrev pub is_gap : List Mark → Bool
is_gap text = ch_at text 0 == 32 || ((ch_at text 0 == 44 || ch_at text 0 == 59) && ch_at text 1 == 32)

-- a space, a parenthesis, a relation, a Stop or a separator begins the text
abbrev pub ends_rightly : List Mark → Bool
ends_rightly text =
    ch_at text 0 == 32 || ch_at text 0 == 40 || ch_at text 0 == 41
    || ch_at text 0 == 60 || ch_at text 0 == 61 || ch_at text 0 == 62
    || ((ch_at text 0 == 44 || ch_at text 0 == 46 || ch_at text 0 == 59) && ch_at text 1 == 32)

-- a letter, digit or hyphen begins the text, or an inner point, which is one that a digit follows
abbrev pub goes_on : List Mark → Bool
goes_on text = is_word_character (ch_at text 0) || (ch_at text 0 == 46 && is_digit (ch_at text 1))
