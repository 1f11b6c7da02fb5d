-- The token or separator that the scanner cuts off a text, and what it leaves for the next one.
use Rattle.std.specs.Prelude.{ℕ, ◌+◌, ◌-◌, Bool, ◌&&◌, ◌||◌, ◌==◌, nat_le, if◌then◌else◌, List, length, take, drop, Option, Some, None, true, false}
use Rattle.cob_lex.specs.declared.text.Mark.{Mark}
use Rattle.cob_tree.specs.declared.token.Rel.{Rel}
use Rattle.cob_tree.specs.declared.token.Rel.TheVariants.{Equal, Less, Greater, AtLeast, AtMost}
use Rattle.cob_lex.specs.declared.mark.Class.{Class}
use Rattle.cob_lex.specs.declared.mark.Class.TheVariants.{Space, Comma, Point, Plus, Single, EqualSign, LessSign, GreaterSign, QuotationMark, Run, Other}
use Rattle.cob_tree.specs.declared.keyword.Keyword.{Keyword}
use Rattle.cob_tree.specs.declared.keyword.Keyword.TheVariants.{Is}
use Rattle.cob_lex.specs.declared.cut.Shape.{Shape}
use Rattle.cob_lex.specs.declared.cut.Shape.TheVariants.{Word, Number, Literal, Symbol, Relation, Stop, PictureString}
use Rattle.cob_lex.specs.declared.cut.Due.{Due}
use Rattle.cob_lex.specs.declared.cut.Due.TheVariants.{Nothing, BehindPic, BehindIs}
use Rattle.cob_lex.specs.declared.cut.State.{State}
use Rattle.cob_lex.specs.declared.cut.Cut.{Cut}
use Rattle.cob_lex.specs.Marks.{class_of, run_of, literal_len, content, solid_len, stripped}
use Rattle.cob_lex.specs.Characters.{ch_at, is_digit, is_gap, ends_rightly}
use Rattle.cob_lex.specs.Words.{spelled_keyword}
use Rattle.cob_lex.specs.WordTests.{is_word, is_unsigned, is_minus}
use Rattle.cob_lex.specs.Tokens.{is_opening, due_after}

-- a separator
abbrev pub gap : Cut
gap = record { shape = None; length = 1 }

-- a token of so many characters
abbrev pub token_of_len : Shape → ℕ → Cut
token_of_len shape n = record { shape = Some shape; length = n }

abbrev pub single : Shape → Option Cut
single shape = Some (token_of_len shape 1)

-- a word, number or literal, which only what ends it may follow
abbrev pub ended : Shape → ℕ → List Mark → Option Cut
ended shape n text = if ends_rightly (drop n text) then Some (token_of_len shape n) else None

abbrev pub is_lone_hyphen : List Mark → Bool
is_lone_hyphen front = length front == 1 && ch_at front 0 == 45

-- a run is a hyphen alone, a word or a number, which has a sign of its own only where one may stand
abbrev pub run_token : Bool → List Mark → List Mark → Option Cut
run_token free front text =
    if is_lone_hyphen front then single Symbol
    else if is_word front then ended (Word (spelled_keyword front)) (length front) text
    else if is_unsigned front || (free && is_minus front) then ended Number (length front) text
    else None

-- a plus is a number's sign where one may stand and a number follows
abbrev pub plus_token : Bool → List Mark → List Mark → Option Cut
plus_token free front text =
    if free && is_unsigned front then ended Number (length front + 1) text else single Symbol

-- a point ends a sentence where a space follows, and begins a number where a digit follows
abbrev pub point_token : Bool → List Mark → Option Cut
point_token free text =
    if ch_at text 1 == 32 then single Stop
    else if is_digit (ch_at text 1) then run_token free (run_of text) text
    else None

-- `<=` and `>=` are one relation
abbrev pub angle_token : Rel → Rel → List Mark → Option Cut
angle_token strict weak text =
    if ch_at text 1 == 61 then Some (token_of_len (Relation weak) 2) else single (Relation strict)

-- 1 to 160 characters
abbrev pub is_literal : List Mark → Bool
is_literal front = nat_le 1 (length (content front)) && nat_le (length (content front)) 160

abbrev pub literal_token : Option ℕ → List Mark → Option Cut
literal_token None text = None
literal_token (Some n) text =
    if is_literal (take (n + 1) text) then ended Literal (n + 1) text else None

-- A picture goes up to the next space. A last point, comma or semicolon isn't part of it: it is read on, as what ends
-- a sentence or separates.
abbrev pub picture_token : List Mark → Option Cut
picture_token front =
    if length (stripped front) == 0 then None else Some (token_of_len PictureString (length (stripped front)))

abbrev pub is_the_word_is : Option Keyword → Bool
is_the_word_is (Some Is) = true
is_the_word_is _ = false

-- the optional word IS before a picture
abbrev pub is_is : List Mark → List Mark → Bool
is_is front text = is_word front && is_the_word_is (spelled_keyword front) && ends_rightly (drop (length front) text)

abbrev pub token_by : Class → Bool → List Mark → Option Cut
token_by Space free text = None
token_by Comma free text = None
token_by Point free text = point_token free text
token_by Plus free text = plus_token free (run_of (drop 1 text)) text
token_by Single free text = single Symbol
token_by EqualSign free text = single (Relation Equal)
token_by LessSign free text = angle_token Less AtMost text
token_by GreaterSign free text = angle_token Greater AtLeast text
token_by QuotationMark free text = literal_token (literal_len (ch_at text 0) false (drop 1 text)) text
token_by Run free text = run_token free (run_of text) text
token_by Other free text = None

abbrev pub token_at : Due → Bool → List Mark → Option Cut
token_at Nothing free text = token_by (class_of (ch_at text 0)) free text
token_at BehindPic free text =
    if is_is (run_of text) text then Some (token_of_len (Word (Some Is)) (length (run_of text)))
    else picture_token (take (solid_len text) text)
token_at BehindIs free text = picture_token (take (solid_len text) text)

-- the token or separator at the beginning of a text that isn't empty; none where none begins or ends rightly there
unfoldable pub cut : State → List Mark → Option Cut
cut s text = if is_gap text then Some gap else token_at s.due s.free text

-- what holds behind a token or separator
unfoldable pub after : State → Cut → List Mark → State
after s c text = record { free = is_opening (ch_at text (c.length - 1)); due = due_after s.due c.shape }
