-- The tokens of a text, a row for each kind: what their own characters are, and what may stand before and behind them.
use Rattle.std.specs.Prelude.{◌≡◌, ◌⊎◌, ℕ, ◌<◌, ◌≤◌, Bool, true, false, not, ◌||◌, ◌==◌, if◌then◌else◌, List, [], ◌∷◌, ◌++◌, codes, length, count_by, Option, Some, None}
use Rattle.std.specs.List.{list_all}
use Rattle.cob_tree.specs.declared.token.Rel.{Rel}
use Rattle.cob_tree.specs.declared.token.Rel.TheVariants.{Equal, Less, Greater, AtLeast, AtMost}
use Rattle.cob_tree.specs.declared.keyword.Keyword.{Keyword}
use Rattle.cob_tree.specs.declared.keyword.Keyword.TheVariants.{Pic, Picture, Is}
use Rattle.cob_lex.specs.declared.text.Mark.{Mark}
use Rattle.cob_lex.specs.declared.cut.Shape.{Shape}
use Rattle.cob_lex.specs.declared.cut.Shape.TheVariants.{Word, Number, Literal, Symbol, Relation, Stop, PictureString}
use Rattle.cob_lex.specs.declared.cut.Due.{Due}
use Rattle.cob_lex.specs.declared.cut.Due.TheVariants.{Nothing, BehindPic, BehindIs}
use Rattle.cob_lex.specs.Literal.{is_quotation}
use Rattle.cob_lex.specs.Characters.{ch_at, last_ch, characters, is_letter, is_digit, is_word_character, is_sign, is_gap, ends_rightly, goes_on, is_point_comma_semicolon}
use Rattle.cob_lex.specs.Words.{spelled_keyword}

-- ---- a token's own characters

abbrev pub is_word_mark : Mark → Bool
is_word_mark m = is_word_character m.ch

abbrev pub is_letter_mark : Mark → Bool
is_letter_mark m = is_letter m.ch

abbrev pub is_digit_mark : Mark → Bool
is_digit_mark m = is_digit m.ch

abbrev pub is_point : Mark → Bool
is_point m = m.ch == 46

abbrev pub is_decimal_mark : Mark → Bool
is_decimal_mark m = is_digit m.ch || m.ch == 46

-- 1 to 30 letters, digits and hyphens, a letter among them, no hyphen first or last
pub record IsWord (front : List Mark) : Type 0 where
  pub some : 0 < length front
  pub few : length front ≤ 30
  pub characters : list_all is_word_mark front ≡ true
  pub letter : 0 < count_by is_letter_mark front
  pub first : (ch_at front 0 == 45) ≡ false
  pub last : (last_ch front == 45) ≡ false

-- 1 to 18 digits and at most one point, which isn't last
pub record IsUnsigned (front : List Mark) : Type 0 where
  pub characters : list_all is_decimal_mark front ≡ true
  pub some : 0 < count_by is_digit_mark front
  pub few : count_by is_digit_mark front ≤ 18
  pub point : count_by is_point front ≤ 1
  pub last : (last_ch front == 46) ≡ false

-- such a number, or a sign directly before it
pub data IsNumber : List Mark → Type 0 where
  without_sign : {front : List Mark} → IsUnsigned front → IsNumber front
  with_sign : {m : Mark} {front : List Mark} → is_sign m.ch ≡ true → IsUnsigned front → IsNumber (m ∷ front)

-- each quotation mark is written twice
abbrev pub doubled : ℕ → List ℕ → List ℕ
doubled quote [] = []
doubled quote (c ∷ cs) = if c == quote then quote ∷ quote ∷ doubled quote cs else c ∷ doubled quote cs

-- 1 to 160 characters between two equal quotation marks, which stand doubled among them
pub record IsText (front : List Mark) : Type 0 where
  pub quote : ℕ
  pub content : List ℕ
  pub mark : is_quotation quote ≡ true
  pub some : 0 < length content
  pub few : length content ≤ 160
  pub spells : characters front ≡ quote ∷ (doubled quote content ++ quote ∷ [])

-- ( ) * + - /
abbrev pub is_mark : ℕ → Bool
is_mark ch = ch == 40 || ch == 41 || ch == 42 || ch == 43 || ch == 45 || ch == 47

-- one of them alone
pub record IsMark (front : List Mark) : Type 0 where
  pub ch : ℕ
  pub mark : is_mark ch ≡ true
  pub spells : characters front ≡ ch ∷ []

abbrev pub written_relation : Rel → List ℕ
written_relation Equal = codes "="
written_relation Less = codes "<"
written_relation Greater = codes ">"
written_relation AtMost = codes "<="
written_relation AtLeast = codes ">="

abbrev pub IsRelation : Rel → List Mark → Type 0
IsRelation r front = characters front ≡ written_relation r

abbrev pub IsStop : List Mark → Type 0
IsStop front = characters front ≡ codes "."

abbrev pub is_no_space : Mark → Bool
is_no_space m = not (m.ch == 32)

-- any characters but spaces
pub record IsPicture (front : List Mark) : Type 0 where
  pub some : 0 < length front
  pub solid : list_all is_no_space front ≡ true

-- the word IS
pub record IsTheWordIs (front : List Mark) : Type 0 where
  pub word : IsWord front
  pub spelled : spelled_keyword front ≡ Some Is

-- ---- what may stand before and behind them

-- a number with a sign stands behind a space or `(`
abbrev pub MayHaveSign : Bool → List Mark → Type 0
MayHaveSign free front = is_sign (ch_at front 0) ≡ true → free ≡ true

-- a number without a sign stands at the beginning, as far as letters, digits, hyphens and inner points go
pub record NumberFollows (text : List Mark) : Type 0 where
  pub number : List Mark
  pub rest : List Mark
  pub parts : text ≡ number ++ rest
  pub is : IsUnsigned number
  pub ends : goes_on rest ≡ false

-- Behind a hyphen nothing goes on. A plus isn't the sign of a number that follows.
pub record MarkEnds (free : Bool) (ch : ℕ) (behind : List Mark) : Type 0 where
  pub hyphen : ch ≡ 45 → goes_on behind ≡ false
  pub plus : ch ≡ 43 → free ≡ true → NumberFollows behind → ⊥

abbrev pub is_strict : Rel → Bool
is_strict Less = true
is_strict Greater = true
is_strict _ = false

-- no `=` stands behind `<` and `>`
abbrev pub RelationEnds : Rel → List Mark → Type 0
RelationEnds r behind = is_strict r ≡ true → (ch_at behind 0 == 61) ≡ false

-- A space stands behind a picture, or a point, comma or semicolon with a space behind it. Before a space a picture ends
-- in none of these.
abbrev pub PictureEnds : List Mark → List Mark → Type 0
PictureEnds front behind =
    ((ch_at behind 0 ≡ 32) × (is_point_comma_semicolon (last_ch front) ≡ false))
    ⊎ ((is_point_comma_semicolon (ch_at behind 0) ≡ true) × (ch_at behind 1 ≡ 32))

-- the word IS stands at the beginning, ended rightly
pub record IsFollows (text : List Mark) : Type 0 where
  pub word : List Mark
  pub rest : List Mark
  pub parts : text ≡ word ++ rest
  pub is : IsTheWordIs word
  pub ends : ends_rightly rest ≡ true

-- A picture stands behind PIC or PICTURE, unless the word IS does, and behind that IS.
abbrev pub IsDue : Due → List Mark → Type 0
IsDue Nothing text = ⊥
IsDue BehindPic text = IsFollows text → ⊥
IsDue BehindIs text = Unit {0}

-- ---- the rows

-- The characters `front` before `behind` are a token of this shape, or a separator. `free` says that a space or `(`
-- stands before them, and `due` whether PIC does, with or without IS.
pub data Stands (free : Bool) : Due → List Mark → List Mark → Option Shape → Type 0 where
  a_separator : {due : Due} {m : Mark} {behind : List Mark} → is_gap (m ∷ behind) ≡ true
      → Stands free due (m ∷ []) behind None
  a_word : {front behind : List Mark} → IsWord front → ends_rightly behind ≡ true
      → Stands free Nothing front behind (Some (Word (spelled_keyword front)))
  a_number : {front behind : List Mark} → IsNumber front → MayHaveSign free front → ends_rightly behind ≡ true
      → Stands free Nothing front behind (Some Number)
  a_text : {front behind : List Mark} → IsText front → ends_rightly behind ≡ true
      → Stands free Nothing front behind (Some Literal)
  a_mark : {front behind : List Mark} → IsMark front → MarkEnds free (ch_at front 0) behind
      → Stands free Nothing front behind (Some Symbol)
  a_relation : {front behind : List Mark} (r : Rel) → IsRelation r front → RelationEnds r behind
      → Stands free Nothing front behind (Some (Relation r))
  a_stop : {front behind : List Mark} → IsStop front → ch_at behind 0 ≡ 32
      → Stands free Nothing front behind (Some Stop)
  the_word_is : {front behind : List Mark} → IsTheWordIs front → ends_rightly behind ≡ true
      → Stands free BehindPic front behind (Some (Word (Some Is)))
  a_picture : {due : Due} {front behind : List Mark} → IsPicture front → PictureEnds front behind
      → IsDue due (front ++ behind) → Stands free due front behind (Some PictureString)

-- ---- what a token leaves for the next one

-- the reserved word that a token is
abbrev pub keyword : Shape → Option Keyword
keyword (Word word) = word
keyword _ = None

abbrev pub due_behind : Due → Option Keyword → Due
due_behind Nothing (Some Pic) = BehindPic
due_behind Nothing (Some Picture) = BehindPic
due_behind BehindPic (Some Is) = BehindIs
due_behind _ _ = Nothing

-- separators may stand between PIC, IS and the picture
abbrev pub due_after : Due → Option Shape → Due
due_after due None = due
due_after due (Some shape) = due_behind due (keyword shape)

-- a space, or `(`
abbrev pub is_opening : ℕ → Bool
is_opening ch = ch == 32 || ch == 40
