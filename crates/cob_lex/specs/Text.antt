-- The text of a source in the reference format of the standard, or the first place that the format refuses.
-- Lines are cut, comments and blank lines are dropped, and the kept lines are joined.
use Rattle.std.specs.Prelude.{◌≡◌, ℕ, ◌+◌, ◌-◌, Bool, not, ◌&&◌, ◌||◌, ◌==◌, nat_lt, if◌then◌else◌, is_some, List, [], ◌∷◌, ◌++◌, map, length, take, slice_index, Option, None, Some, Result, Ok, Err}
use Rattle.std.specs.List.{filter, enumerate_from, range_with_len, suffix_len}
use Rattle.std.specs.Str.Lines.{lines}
use Rattle.std.specs.Global.{Vec}
use Rattle.cob_lex.specs.declared.text.Mark.{Mark}
use Rattle.cob_lex.specs.declared.text.TextEnd.{TextEnd}
use Rattle.cob_lex.specs.declared.text.TextEnd.TheVariants.{BadLine, Memory}
use Rattle.cob_lex.specs.declared.refusal.Place.{Place}
use Rattle.cob_lex.specs.Columns.{space, columns, byte_at, is_continuation, is_dropped, first_nonblank, bad_column}
use Rattle.cob_lex.specs.Literal.{open_literal}

-- the greatest number of bytes of a source
abbrev pub source_limit : ℕ
source_limit = 1048576

-- a line of the source, with its number from 1
abbrev pub Line : Type 0
Line = ℕ × List ℕ

-- the lines of a source; they end in LF or CR LF, and the last may lack its end
abbrev pub numbered_lines : List ℕ → List Line
numbered_lines bytes = enumerate_from 1 (lines bytes)

-- comments and blank lines are dropped
abbrev pub kept : List Line → List Line
kept ls = filter (λ l. not (is_dropped l.1)) ls

abbrev pub place : ℕ → ℕ → Place
place number column = record { line = number; column = column }

abbrev pub place_of : Mark → Place
place_of mark = place mark.line mark.column

-- the character in a column of a line
abbrev pub mark_at : ℕ → List ℕ → ℕ → Mark
mark_at number line column = record { ch = byte_at line column; line = number; column = column }

-- the characters from a column through column 72
abbrev pub marks_from : ℕ → List ℕ → ℕ → List Mark
marks_from number line column = map (mark_at number line) (range_with_len column (73 - column))

-- the space at column 73 for which a line's end counts
abbrev pub end_mark : ℕ → Mark
end_mark number = record { ch = space; line = number; column = 73 }

-- a text whose last line ends here: a literal that is open goes on through the line's end
abbrev pub ended : ℕ → List Mark → List Mark
ended number text = if is_some (open_literal text) then text else text ++ end_mark number ∷ []

abbrev pub is_space : Mark → Bool
is_space mark = mark.ch == space

-- a text up to its last nonblank
abbrev pub trimmed : List Mark → List Mark
trimmed text = take (length text - suffix_len is_space text) text

abbrev pub is_nil : List Mark → Bool
is_nil text = length text == 0

-- An ordinary line joins as it is. A literal that is open before it is refused at its opening mark.
abbrev pub with_ordinary : Option Mark → List Mark → ℕ → List ℕ → Result (List Mark) Place
with_ordinary None text number line = Ok (ended number (text ++ marks_from number line 8))
with_ordinary (Some opening) text number line = Err (place_of opening)

-- A continuation goes on with an open literal after its own first nonblank, which is the same mark,
-- and else joins its first nonblank to the last one of the text. It may be neither blank nor the first line.
abbrev pub with_continuation : Option ℕ → Option Mark → List Mark → ℕ → List ℕ → Result (List Mark) Place
with_continuation None literal text number line = Err (place number 7)
with_continuation (Some k) None text number line =
    if is_nil text then Err (place number 7)
    else Ok (ended number (trimmed text ++ marks_from number line (k + 8)))
with_continuation (Some k) (Some opening) text number line =
    if slice_index (columns 8 72 line) k == opening.ch
    then Ok (ended number (text ++ marks_from number line (k + 9)))
    else Err (place number (k + 8))

-- a text with one more kept line
abbrev pub with_line : List Mark → ℕ → List ℕ → Result (List Mark) Place
with_line text number line =
    if is_continuation line
    then with_continuation (first_nonblank line) (open_literal text) text number line
    else with_ordinary (open_literal text) text number line

-- a text with one more line, if that is kept
abbrev pub with_kept : List Mark → ℕ → List ℕ → Result (List Mark) Place
with_kept text number line = if is_dropped line then Ok text else with_line text number line

-- the end of a source in an open literal is refused at its opening mark
abbrev pub closed : Option Mark → List Mark → Result (List Mark) Place
closed None text = Ok text
closed (Some opening) text = Err (place_of opening)

abbrev pub onward : Result (List Mark) Place → (List Mark → Result (List Mark) Place) → Result (List Mark) Place
onward (Ok text) next = next text
onward (Err refused) next = Err refused

-- a text with these kept lines behind it, or the first line that doesn't join
unfoldable pub joined : List Mark → List Line → Result (List Mark) Place
joined text [] = closed (open_literal text) text
joined text (l ∷ ls) = onward (with_line text l.0 l.1) (λ longer. joined longer ls)

abbrev pub bad_or : ℕ → Option ℕ → Option Place → Option Place
bad_or number None later = later
bad_or number (Some column) later = Some (place number column)

-- the first place at which a line is bad by itself, in comments and blank lines too
unfoldable pub first_bad : List Line → Option Place
first_bad [] = None
first_bad (l ∷ ls) = bad_or l.0 (bad_column l.1) (first_bad ls)

-- the place that comes first in the source
abbrev pub earlier : Place → Place → Place
earlier p q =
    if nat_lt p.line q.line || (p.line == q.line && nat_lt p.column q.column) then p else q

-- The earlier one of both refusals counts.
abbrev pub refused_first : Option Place → Result (List Mark) Place → Result (List Mark) Place
refused_first None text = text
refused_first (Some bad) (Ok text) = Err bad
refused_first (Some bad) (Err refused) = Err (earlier bad refused)

-- the text of a source, or the first place in it that is refused
unfoldable pub source_text : List ℕ → Result (List Mark) Place
source_text bytes =
    refused_first (first_bad (numbered_lines bytes)) (joined [] (kept (numbered_lines bytes)))

-- the call gives what is wanted, or memory ran out
abbrev pub Gives : Result (List Mark) Place → Result (Vec Mark) TextEnd → Type 0
Gives wanted (Ok marks) = wanted ≡ Ok marks.items
Gives wanted (Err (BadLine line column)) = wanted ≡ Err (place line column)
Gives wanted (Err Memory) = Unit {0}

-- the fact for the place of a bad line; nothing for want of memory
abbrev pub IfBadLine : TextEnd → (Place → Type 0) → Type 0
IfBadLine (BadLine line column) P = P (place line column)
IfBadLine Memory P = Unit {0}
