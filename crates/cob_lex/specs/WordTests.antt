-- How the scanner tests what a run of characters is.
use Rattle.std.specs.Prelude.{ℕ, ◌+◌, ◌-◌, Bool, not, ◌&&◌, ◌==◌, nat_lt, nat_le, List, length, drop, count_by}
use Rattle.cob_lex.specs.declared.text.Mark.{Mark}
use Rattle.cob_lex.specs.Characters.{ch_at, is_letter, is_digit, is_word_character}

-- 1 to 30 letters, digits and hyphens, a letter among them, and no hyphen first or last
abbrev pub is_word : List Mark → Bool
is_word front =
    nat_le 1 (length front) && nat_le (length front) 30
    && count_by (λ m. is_word_character m.ch) front == length front
    && nat_lt 0 (count_by (λ m. is_letter m.ch) front)
    && not (ch_at front 0 == 45) && not (ch_at front (length front - 1) == 45)

abbrev pub digits_in : List Mark → ℕ
digits_in front = count_by (λ m. is_digit m.ch) front

abbrev pub points_in : List Mark → ℕ
points_in front = count_by (λ m. m.ch == 46) front

-- 1 to 18 digits and at most one point, which isn't last
abbrev pub is_unsigned : List Mark → Bool
is_unsigned front =
    nat_le 1 (digits_in front) && nat_le (digits_in front) 18
    && nat_le (points_in front) 1
    && digits_in front + points_in front == length front
    && not (ch_at front (length front - 1) == 46)

-- a hyphen, and a number without a sign
abbrev pub is_minus : List Mark → Bool
is_minus front = ch_at front 0 == 45 && is_unsigned (drop 1 front)
