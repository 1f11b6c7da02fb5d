-- The columns of a line: the indicator, the text area, and the first column that the reference format forbids.
use Rattle.std.specs.Prelude.{ℕ, ◌+◌, ◌-◌, Bool, not, ◌&&◌, ◌||◌, ◌==◌, nat_lt, if◌then◌else◌, is_none, List, slice_range, slice_index_or}
use Rattle.std.specs.List.{position}
use Rattle.std.specs.Option.{option_map, option_or}
use Rattle.std.specs.Prelude.{None, Option, Some}

abbrev pub space : ℕ
space = 32

-- the bytes in these columns, both counted in, as far as the line goes
abbrev pub columns : ℕ → ℕ → List ℕ → List ℕ
columns from to line = slice_range line (from - 1) to

-- the byte in a column, where a line counts as filled with spaces
abbrev pub byte_at : List ℕ → ℕ → ℕ
byte_at line column = slice_index_or line (column - 1) space

-- what the line is: column 7
abbrev pub indicator : List ℕ → ℕ
indicator line = byte_at line 7

-- the indicators `*`, `/`, `D` and `d`
abbrev pub is_comment : List ℕ → Bool
is_comment line =
    indicator line == 42 || indicator line == 47 || indicator line == 68 || indicator line == 100

-- the indicator `-`
abbrev pub is_continuation : List ℕ → Bool
is_continuation line = indicator line == 45

abbrev pub is_ordinary : List ℕ → Bool
is_ordinary line = indicator line == space

abbrev pub is_nonblank : ℕ → Bool
is_nonblank byte = not (byte == space)

-- the place of the first byte of the text area that is no space, from 0
abbrev pub first_nonblank : List ℕ → Option ℕ
first_nonblank line = position is_nonblank (columns 8 72 line)

-- comment lines, and ordinary lines that are blank
abbrev pub is_dropped : List ℕ → Bool
is_dropped line = is_comment line || (is_ordinary line && is_none (first_nonblank line))

abbrev pub is_tab : ℕ → Bool
is_tab byte = byte == 9

abbrev pub first_tab : List ℕ → Option ℕ
first_tab line = position is_tab (columns 1 7 line)

-- no printable character of ASCII
abbrev pub is_strange : ℕ → Bool
is_strange byte = nat_lt byte 32 || nat_lt 126 byte

abbrev pub first_strange : List ℕ → Option ℕ
first_strange line = position is_strange (columns 8 72 line)

-- the first tab in columns 1 to 7
abbrev pub tab_column : List ℕ → Option ℕ
tab_column line = option_map (λ k. k + 1) (first_tab line)

-- column 7, where its indicator is none of the format's
abbrev pub indicator_column : List ℕ → Option ℕ
indicator_column line =
    if is_comment line || is_continuation line || is_ordinary line then None else Some 7

-- the first strange byte of the text area; in a comment any may stand
abbrev pub strange_column : List ℕ → Option ℕ
strange_column line =
    if is_comment line then None else option_map (λ k. k + 8) (first_strange line)

-- the first column at which the line is bad by itself
abbrev pub bad_column : List ℕ → Option ℕ
bad_column line = option_or (tab_column line) (option_or (indicator_column line) (strange_column line))
