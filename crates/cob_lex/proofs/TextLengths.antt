-- How long the text of a source may be: a line gives 66 characters at most, and each line but the last has a byte.
use Rattle.std.proofs.Common.{ℕ, ◌+◌, ◌-◌, ◌*◌, ◌≤◌, true, false, not, cond, eqb, is_some, arith, List, [], ◌∷◌, ◌++◌, length, Option, None, Some, Result, Ok, Err}
use Rattle.std.proofs.lemmas.List.{length-append, length-take}
use Rattle.std.proofs.lemmas.List.FromFn.{length-map-range_with_len, length-enumerate_from}
use Rattle.std.proofs.lemmas.List.Splits.{length-slice_split}
use Rattle.std.proofs.lemmas.List.Sums.{count_by-le-length, length-filter}
use Rattle.std.specs.List.{slice_split, suffix_len}
use Rattle.std.specs.Prelude.{slice_index}
use Rattle.std.specs.Str.Lines.{lines, lines_of_parts}
use Rattle.cob_lex.specs.declared.text.Mark.{Mark}
use Rattle.cob_lex.specs.declared.refusal.Place.{Place}
use Rattle.cob_lex.specs.Columns.{columns, is_continuation, is_dropped, first_nonblank}
use Rattle.cob_lex.specs.Literal.{open_literal}
use Rattle.cob_lex.specs.Text.{Line, numbered_lines, kept, place, marks_from, mark_at, end_mark, ended, is_space, trimmed, is_nil, with_ordinary, with_continuation, with_line, closed, onward, joined, first_bad, refused_first, source_text}
use Rattle.cob_lex.proofs.Most.{Most, most_more}

parts_are_lines : (parts : List (List ℕ)) → length (lines_of_parts parts) ≤ length parts
parts_are_lines [] = omega arith
parts_are_lines (x ∷ []) =
    elim (eqb (length x) 0) as (λ b. length (cond b [] (x ∷ [])) ≤ 1) [ true ↦ omega arith | false ↦ omega arith ]
parts_are_lines (x ∷ y ∷ more) = omega (arith, parts_are_lines (y ∷ more))

lines_few : (bytes : List ℕ) → length (lines bytes) ≤ length bytes + 1
lines_few bytes =
    let newline = λ (b : ℕ). eqb b 10 in
    let parts = parts_are_lines (slice_split newline bytes) in
    omega (arith, parts, length-slice_split newline bytes, count_by-le-length newline bytes)

kept_few : (bytes : List ℕ) → length (kept (numbered_lines bytes)) ≤ length bytes + 1
kept_few bytes =
    let keeps = λ (l : Line). not (is_dropped l.1) in
    let ls = numbered_lines bytes in
    let numbered = length-enumerate_from 1 (lines bytes) in
    omega (arith, length-filter keeps ls, count_by-le-length keeps ls, numbered, lines_few bytes)

ended_few : (number : ℕ) (text : List Mark) → length (ended number text) ≤ length text + 1
ended_few number text =
    elim (is_some (open_literal text)) as (λ b. length (cond b text (text ++ end_mark number ∷ [])) ≤ length text + 1)
    [ true ↦ omega arith | false ↦ omega (arith, length-append text (end_mark number ∷ [])) ]

-- a text with these columns behind it, and perhaps the line's end
behind_few : (text : List Mark) (number : ℕ) (line : List ℕ) (column : ℕ) → 8 ≤ column
    → length (ended number (text ++ marks_from number line column)) ≤ length text + 66
behind_few text number line column h =
    let marks = marks_from number line column in
    let many = length-map-range_with_len (mark_at number line) column (73 - column) in
    omega (arith, ended_few number (text ++ marks), length-append text marks, many)

ordinary_few : (literal : Option Mark) (text : List Mark) (number : ℕ) (line : List ℕ)
    → Most (length text + 66) (with_ordinary literal text number line)
ordinary_few None text number line = behind_few text number line 8 (omega arith)
ordinary_few (Some opening) text number line = tt

trimmed_few : (text : List Mark) → length (trimmed text) ≤ length text
trimmed_few text = omega (arith, length-take (length text - suffix_len is_space text) text)

joined_behind_few : (text : List Mark) (number : ℕ) (line : List ℕ) (k : ℕ)
    → length (ended number (trimmed text ++ marks_from number line (k + 8))) ≤ length text + 66
joined_behind_few text number line k =
    omega (arith, behind_few (trimmed text) number line (k + 8) (omega arith), trimmed_few text)

continuation_few : (first : Option ℕ) (literal : Option Mark) (text : List Mark) (number : ℕ) (line : List ℕ)
    → Most (length text + 66) (with_continuation first literal text number line)
continuation_few None literal text number line = tt
continuation_few (Some k) None text number line =
    let longer = ended number (trimmed text ++ marks_from number line (k + 8)) in
    elim (is_nil text) as (λ b. Most (length text + 66) (cond b (Err (place number 7)) (Ok longer)))
    [ true ↦ tt | false ↦ joined_behind_few text number line k ]
continuation_few (Some k) (Some opening) text number line =
    let longer = ended number (text ++ marks_from number line (k + 9)) in
    let goes_on = eqb (slice_index (columns 8 72 line) k) opening.ch in
    elim goes_on as (λ b. Most (length text + 66) (cond b (Ok longer) (Err (place number (k + 8)))))
    [ true ↦ behind_few text number line (k + 9) (omega arith) | false ↦ tt ]

line_few : (text : List Mark) (number : ℕ) (line : List ℕ) → Most (length text + 66) (with_line text number line)
line_few text number line =
    let literal = open_literal text in
    let first = first_nonblank line in
    let continued = with_continuation first literal text number line in
    elim (is_continuation line) as (λ b. Most (length text + 66) (cond b continued (with_ordinary literal text number line)))
    [ true ↦ continuation_few first literal text number line | false ↦ ordinary_few literal text number line ]

onward_few : (n m : ℕ) (r : Result (List Mark) Place) (next : List Mark → Result (List Mark) Place) → Most (n + 66) r
    → ((text : List Mark) → Most (length text + 66 * m) (next text)) → Most (n + 66 * (m + 1)) (onward r next)
onward_few n m (Ok text) next most then_most =
    most_more (length text + 66 * m) (n + 66 * (m + 1)) (next text) (omega arith) (then_most text)
onward_few n m (Err refused) next most then_most = tt

closed_few : (literal : Option Mark) (text : List Mark) → Most (length text) (closed literal text)
closed_few None text = omega arith
closed_few (Some opening) text = tt

joined_few : (text : List Mark) (ls : List Line) → Most (length text + 66 * length ls) (joined text ls)
unfolding joined
joined_few text [] =
    let literal = open_literal text in
    most_more (length text) (length text + 66 * 0) (closed literal text) (omega arith) (closed_few literal text)
joined_few text (l ∷ ls) =
    let longer = λ (t : List Mark). joined t ls in
    let first = with_line text l.0 l.1 in
    let n = length text + 66 * (length ls + 1) in
    let m = length text + 66 * length (l ∷ ls) in
    most_more n m (onward first longer) (omega arith)
    (onward_few (length text) (length ls) first longer (line_few text l.0 l.1) (λ t. joined_few t ls))

refused_few : (n : ℕ) (bad : Option Place) (text : Result (List Mark) Place) → Most n text
    → Most n (refused_first bad text)
refused_few n None text most = most
refused_few n (Some bad) (Ok text) most = tt
refused_few n (Some bad) (Err refused) most = tt

-- a source's text has 66 characters for each byte and 66 more at most
pub text_few : (bytes : List ℕ) → Most (66 * (length bytes + 1)) (source_text bytes)
unfolding source_text
text_few bytes =
    let ls = numbered_lines bytes in
    let n = 66 * (length bytes + 1) in
    let m = length {A = Mark} [] + 66 * length (kept ls) in
    refused_few n (first_bad ls) (joined [] (kept ls))
    (most_more m n (joined [] (kept ls)) (omega (arith, kept_few bytes)) (joined_few [] (kept ls)))
