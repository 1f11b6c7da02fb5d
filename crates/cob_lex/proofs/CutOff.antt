-- What stands at the beginning of a text is what the scanner cuts off: words, marks, relations, numbers.
use Rattle.std.proofs.Common.{◌≡◌, ℕ, ◌+◌, ◌<◌, Bool, true, false, eqb, List, [], ◌∷◌, ◌++◌, length, drop, refl, ap, ◌∙◌, sym, arith, Option, Some, ◌⊎◌, inl, inr}
use Rattle.std.specs.Prelude.{◌||◌, count_by}
use Rattle.std.specs.List.{list_all}
use Rattle.std.proofs.Math.Seq.{drop-append_seam, take-append_seam}
use Rattle.std.proofs.lemmas.List.{take-append-drop}
use Rattle.std.proofs.lemmas.Bool.{and_parts, eqb-true}
use Rattle.std.proofs.lemmas.Bool.Decides.{nat_tests}
use Rattle.cob_tree.specs.declared.token.Rel.TheVariants.{Less, AtMost}
use Rattle.cob_lex.specs.declared.text.Mark.{Mark}
use Rattle.cob_lex.specs.declared.mark.Class.{Class}
use Rattle.cob_lex.specs.declared.mark.Class.TheVariants.{Point, Plus, Single, LessSign, Run}
use Rattle.cob_lex.specs.declared.cut.Shape.{Shape}
use Rattle.cob_lex.specs.declared.cut.Shape.TheVariants.{Word, Number, Symbol, Relation, Stop}
use Rattle.cob_lex.specs.declared.cut.Due.TheVariants.{Nothing}
use Rattle.cob_lex.specs.declared.cut.State.{State}
use Rattle.cob_lex.specs.declared.cut.Cut.{Cut}
use Rattle.cob_lex.specs.Marks.{class_of, run_len, run_of}
use Rattle.cob_lex.specs.Words.{spelled_keyword}
use Rattle.cob_lex.specs.WordTests.{is_word, is_unsigned}
use Rattle.cob_lex.specs.Cuts.{token_of_len, ended, is_lone_hyphen, run_token, plus_token, token_by, cut}
use Rattle.cob_lex.specs.Characters.{ch_at, is_letter, is_digit, is_word_character, is_gap, ends_rightly, goes_on}
use Rattle.cob_lex.specs.Tokens.{is_word_mark, is_point, is_decimal_mark, is_digit_mark, IsWord, IsUnsigned, NumberFollows}
use Rattle.cob_lex.proofs.Runs.{weight, count_on, run_on, run_ends, or_first, or_second, counted_point, word_run, number_run, word_class, no_gap, ended_stops}
use Rattle.cob_lex.proofs.RunTests.{word_is, is_the_word, number_is, is_the_number}

-- the marks that need no look at what follows
abbrev pub is_single : ℕ → Bool
is_single ch = eqb ch 40 || eqb ch 41 || eqb ch 42 || eqb ch 47

abbrev pub at : Bool → State
at free = record { free = free; due = Nothing }

-- ---- by the first character
pub cut_by : (free : Bool) (c : Class) (m : Mark) (xs : List Mark) → is_gap (m ∷ xs) ≡ false → class_of m.ch ≡ c → cut (at free) (m ∷ xs) ≡ token_by c free (m ∷ xs)
unfolding cut
cut_by free c m xs e f = rw (e, f) refl

pub of_char : (ch code : ℕ) (c : Class) → ch ≡ code → class_of code ≡ c → class_of ch ≡ c
of_char ch code c e f = ap class_of e ∙ f

-- ---- runs
pub ended_at : (shape : Shape) (front behind : List Mark) → ends_rightly behind ≡ true → ended shape (length front) (front ++ behind) ≡ Some (token_of_len shape (length front))
ended_at shape front behind e = rw (drop-append_seam front behind, e) refl

pub run_is : (front behind : List Mark) → run_len (front ++ behind) ≡ length front → run_of (front ++ behind) ≡ front
run_is front behind e = rw (e, take-append_seam front behind) refl

word_no_hyphen : (front : List Mark) → IsWord front → is_lone_hyphen front ≡ false
word_no_hyphen front is = let e = is.first in grind (arith, nat_tests, e)

pub word_token : (free : Bool) (front behind : List Mark) → IsWord front → ends_rightly behind ≡ true → run_token free front (front ++ behind) ≡ Some (token_of_len (Word (spelled_keyword front)) (length front))
word_token free front behind is e = rw (word_no_hyphen front is, word_is front is) (ended_at (Word (spelled_keyword front)) front behind e)

pub word_read : (free : Bool) (front behind : List Mark) → IsWord front → ends_rightly behind ≡ true → cut (at free) (front ++ behind) ≡ Some (token_of_len (Word (spelled_keyword front)) (length front))
word_read free [] behind is e = absurd (let some = is.some in omega (arith, some))
word_read free (m ∷ front) behind is e =
    let first : is_word_mark m ≡ true = (and_parts (is_word_mark m) (list_all is_word_mark front) is.characters).0 in
    let run = run_is (m ∷ front) behind (word_run (m ∷ front) behind is.characters (ended_stops behind e)) in
    cut_by free Run m (front ++ behind) (no_gap m (front ++ behind) first) (word_class m.ch first)
    ∙ ap (λ (r : List Mark). run_token free r (m ∷ front ++ behind)) run
    ∙ word_token free (m ∷ front) behind is e

-- ---- numbers
no_space : (ch : ℕ) → is_digit ch ≡ true → eqb ch 32 ≡ false
no_space ch e = grind (arith, nat_tests)

number_no_hyphen : (front : List Mark) → IsUnsigned front → is_lone_hyphen front ≡ false
number_no_hyphen [] is = refl
number_no_hyphen (m ∷ front) is =
    let first : is_decimal_mark m ≡ true = (and_parts (is_decimal_mark m) (list_all is_decimal_mark front) is.characters).0 in
    no_sign first
  where
    no_sign : is_decimal_mark m ≡ true → is_lone_hyphen (m ∷ front) ≡ false
    no_sign e = grind (arith, nat_tests)

-- a number has no letter
number_no_word : (front : List Mark) → list_all is_decimal_mark front ≡ true → is_word front ≡ false
number_no_word front all = by_bool (is_word front) refl
  where
    no_letters : (xs : List Mark) → list_all is_decimal_mark xs ≡ true → count_by (λ (m : Mark). is_letter m.ch) xs ≡ 0
    no_letters [] e = refl
    no_letters (m ∷ xs) e =
        let parts = and_parts (is_decimal_mark m) (list_all is_decimal_mark xs) e in
        let none = no_letter m.ch parts.0 in
        let rest = no_letters xs parts.1 in
        omega (arith, count_on (λ (m : Mark). is_letter m.ch) m xs, none, rest)
      where
        no_letter : (ch : ℕ) → (is_digit ch || eqb ch 46) ≡ true → weight (is_letter ch) ≡ 0
        no_letter ch e = grind (arith, nat_tests)

    by_bool : (b : Bool) → is_word front ≡ b → b ≡ false
    by_bool false e = refl
    by_bool true e = absurd (let l = (is_the_word front e).letter in let none = no_letters front all in omega (arith, l, none))

pub number_token : (free : Bool) (front behind : List Mark) → IsUnsigned front → ends_rightly behind ≡ true → run_token free front (front ++ behind) ≡ Some (token_of_len Number (length front))
number_token free front behind is e = rw (number_no_hyphen front is, number_no_word front is.characters, number_is front is) (ended_at Number front behind e)

number_class : (m : Mark) → is_digit m.ch ≡ true → class_of m.ch ≡ Run
number_class m e = grind (arith, nat_tests)

pub number_read : (free : Bool) (front behind : List Mark) → IsUnsigned front → ends_rightly behind ≡ true → cut (at free) (front ++ behind) ≡ Some (token_of_len Number (length front))
number_read free [] behind is e = absurd (let some : 0 < count_by is_digit_mark [] = is.some in omega (arith, some))
number_read free (m ∷ front) behind is e =
    let first : is_decimal_mark m ≡ true = (and_parts (is_decimal_mark m) (list_all is_decimal_mark front) is.characters).0 in
    let run = run_is (m ∷ front) behind (number_run (m ∷ front) behind is.characters is.point is.last (ended_stops behind e)) in
    by_digit (is_digit m.ch) refl first run (number_token free (m ∷ front) behind is e)
  where
    wanted : Option Cut
    wanted = Some (token_of_len Number (length (m ∷ front)))

    by_digit : (b : Bool) → is_digit m.ch ≡ b → is_decimal_mark m ≡ true → run_of (m ∷ front ++ behind) ≡ m ∷ front → run_token free (m ∷ front) (m ∷ front ++ behind) ≡ Some (token_of_len Number (length (m ∷ front)))
        → cut (at free) (m ∷ front ++ behind) ≡ Some (token_of_len Number (length (m ∷ front)))
    by_digit true d f run t =
        cut_by free Run m (front ++ behind) (no_gap m (front ++ behind) (digit_is m.ch d)) (number_class m d)
        ∙ ap (λ (r : List Mark). run_token free r (m ∷ front ++ behind)) run ∙ t
      where
        digit_is : (ch : ℕ) → is_digit ch ≡ true → is_word_character ch ≡ true
        digit_is ch e = grind (arith, nat_tests)
    by_digit false d f run t = point_first m front behind is (or_second (is_digit m.ch) (eqb m.ch 46) f d) ∙ ap (λ (r : List Mark). run_token free r (m ∷ front ++ behind)) run ∙ t
      where
        point_first : (m : Mark) (front behind : List Mark) → IsUnsigned (m ∷ front) → eqb m.ch 46 ≡ true → cut (at free) (m ∷ front ++ behind) ≡ run_token free (run_of (m ∷ front ++ behind)) (m ∷ front ++ behind)
        point_first m [] behind is e = absurd (let last : eqb m.ch 46 ≡ false = is.last in cc)
        point_first m (n ∷ rest) behind is e =
            let code : m.ch ≡ 46 = eqb-true m.ch 46 e in
            let parts = and_parts (is_decimal_mark m) (list_all is_decimal_mark (n ∷ rest)) is.characters in
            let second = and_parts (is_decimal_mark n) (list_all is_decimal_mark rest) parts.1 in
            let c = count_on is_point m (n ∷ rest) in
            let d : weight (is_point m) ≡ 1 = rw e refl in
            let point = is.point in
            let none : eqb n.ch 46 ≡ false = counted_point n rest (omega (arith, point, c, d)) in
            let digit : is_digit n.ch ≡ true = or_first (is_digit n.ch) (eqb n.ch 46) second.0 none in
            cut_by free Point m (n ∷ rest ++ behind) (rw code refl) (of_char m.ch 46 Point code refl) ∙ rw (no_space n.ch digit, digit) refl

-- ---- marks and relations
single_class : (m : Mark) → is_single m.ch ≡ true → class_of m.ch ≡ Single
single_class m e = grind (arith, nat_tests)

single_no_gap : (m : Mark) (xs : List Mark) → is_single m.ch ≡ true → is_gap (m ∷ xs) ≡ false
single_no_gap m xs e = grind (arith, nat_tests)

pub single_read : (free : Bool) (m : Mark) (behind : List Mark) → is_single m.ch ≡ true → cut (at free) (m ∷ behind) ≡ Some (token_of_len Symbol 1)
single_read free m behind e = cut_by free Single m behind (single_no_gap m behind e) (single_class m e)

minus_no_gap : (m : Mark) (xs : List Mark) → m.ch ≡ 45 → is_gap (m ∷ xs) ≡ false
minus_no_gap m xs e = rw e refl

minus_run : (m : Mark) (behind : List Mark) → m.ch ≡ 45 → goes_on behind ≡ false → run_of (m ∷ behind) ≡ m ∷ []
minus_run m behind e f = run_is (m ∷ []) behind (word_run (m ∷ []) behind (rw e refl) f)

pub minus_read : (free : Bool) (m : Mark) (behind : List Mark) → m.ch ≡ 45 → goes_on behind ≡ false → cut (at free) (m ∷ behind) ≡ Some (token_of_len Symbol 1)
minus_read free m behind e f =
    cut_by free Run m behind (minus_no_gap m behind e) (of_char m.ch 45 Run e refl)
    ∙ ap (λ (r : List Mark). run_token free r (m ∷ behind)) (minus_run m behind e f)
    ∙ (rw e refl)

pub less_read : (free : Bool) (m : Mark) (behind : List Mark) → m.ch ≡ 60 → eqb (ch_at behind 0) 61 ≡ false → cut (at free) (m ∷ behind) ≡ Some (token_of_len (Relation Less) 1)
less_read free m behind e f = cut_by free LessSign m behind (rw e refl) (of_char m.ch 60 LessSign e refl) ∙ (rw f refl)

pub at_most_read : (free : Bool) (m n : Mark) (behind : List Mark) → m.ch ≡ 60 → n.ch ≡ 61 → cut (at free) (m ∷ n ∷ behind) ≡ Some (token_of_len (Relation AtMost) 2)
at_most_read free m n behind e f = cut_by free LessSign m (n ∷ behind) (rw e refl) (of_char m.ch 60 LessSign e refl) ∙ (rw f refl)

pub stop_read : (free : Bool) (m : Mark) (behind : List Mark) → m.ch ≡ 46 → ch_at behind 0 ≡ 32 → cut (at free) (m ∷ behind) ≡ Some (token_of_len Stop 1)
stop_read free m behind e f = cut_by free Point m behind (rw e refl) (of_char m.ch 46 Point e refl) ∙ (rw f refl)

-- ---- signs
pub some_digit : (front : List Mark) → IsUnsigned front → 0 < length front
some_digit [] is = is.some
some_digit (m ∷ front) is = omega arith

signed_no_word : (m : Mark) (front : List Mark) → m.ch ≡ 45 → is_word (m ∷ front) ≡ false
signed_no_word m front e = by_bool (is_word (m ∷ front)) refl
  where
    by_bool : (b : Bool) → is_word (m ∷ front) ≡ b → b ≡ false
    by_bool false f = refl
    by_bool true f = absurd (let first : eqb m.ch 45 ≡ false = (is_the_word (m ∷ front) f).first in let same : eqb m.ch 45 ≡ true = rw e refl in cc)

signed_no_number : (m : Mark) (front : List Mark) → m.ch ≡ 45 → is_unsigned (m ∷ front) ≡ false
signed_no_number m front e = by_bool (is_unsigned (m ∷ front)) refl
  where
    by_bool : (b : Bool) → is_unsigned (m ∷ front) ≡ b → b ≡ false
    by_bool false f = refl
    by_bool true f = absurd (let first : is_decimal_mark m ≡ true = (and_parts (is_decimal_mark m) (list_all is_decimal_mark front) (is_the_number (m ∷ front) f).characters).0 in let same : is_decimal_mark m ≡ false = rw e refl in cc)

signed_no_hyphen : (m : Mark) (front : List Mark) → 0 < length front → is_lone_hyphen (m ∷ front) ≡ false
signed_no_hyphen m [] h = absurd (omega (arith, h))
signed_no_hyphen m (n ∷ front) h = grind (arith, nat_tests)

pub minus_number_read : (m : Mark) (front behind : List Mark) → m.ch ≡ 45 → IsUnsigned front → ends_rightly behind ≡ true → cut (at true) (m ∷ front ++ behind) ≡ Some (token_of_len Number (length (m ∷ front)))
minus_number_read m front behind e is f =
    let on : goes_on (m ∷ front ++ behind) ≡ true = rw e refl in
    let len : run_len (m ∷ front ++ behind) ≡ length (m ∷ front) = run_on m (front ++ behind) on ∙ ap (λ n. 1 + n) (number_run front behind is.characters is.point is.last (ended_stops behind f)) ∙ omega arith in
    cut_by true Run m (front ++ behind) (rw e refl) (of_char m.ch 45 Run e refl)
    ∙ ap (λ (r : List Mark). run_token true r (m ∷ front ++ behind)) (run_is (m ∷ front) behind len)
    ∙ rw (signed_no_hyphen m front (some_digit front is), signed_no_word m front e, signed_no_number m front e, e, number_is front is) (ended_at Number (m ∷ front) behind f)

pub plus_number_read : (m : Mark) (front behind : List Mark) → m.ch ≡ 43 → IsUnsigned front → ends_rightly behind ≡ true → cut (at true) (m ∷ front ++ behind) ≡ Some (token_of_len Number (length (m ∷ front)))
plus_number_read m front behind e is f =
    let len = number_run front behind is.characters is.point is.last (ended_stops behind f) in
    let one : length front + 1 ≡ length (m ∷ front) = omega arith in
    cut_by true Plus m (front ++ behind) (rw e refl) (of_char m.ch 43 Plus e refl)
    ∙ ap (λ (r : List Mark). plus_token true r (m ∷ front ++ behind)) (run_is front behind len)
    ∙ rw (number_is front is, one) (ended_at Number (m ∷ front) behind f)

not_followed : (behind : List Mark) → (NumberFollows behind → ⊥) → is_unsigned (run_of behind) ≡ false
not_followed behind none = by_bool (is_unsigned (run_of behind)) refl
  where
    by_bool : (b : Bool) → is_unsigned (run_of behind) ≡ b → b ≡ false
    by_bool false e = refl
    by_bool true e = absurd (none (record { number = run_of behind; rest = drop (run_len behind) behind; parts = sym (take-append-drop (run_len behind) behind); is = is_the_number (run_of behind) e; ends = run_ends behind }))

pub plus_read : (free : Bool) (m : Mark) (behind : List Mark) → m.ch ≡ 43 → (free ≡ false) ⊎ (NumberFollows behind → ⊥) → cut (at free) (m ∷ behind) ≡ Some (token_of_len Symbol 1)
plus_read free m behind e (inl f) = cut_by free Plus m behind (rw e refl) (of_char m.ch 43 Plus e refl) ∙ rw f refl
plus_read false m behind e (inr none) = cut_by false Plus m behind (rw e refl) (of_char m.ch 43 Plus e refl)
plus_read true m behind e (inr none) = cut_by true Plus m behind (rw e refl) (of_char m.ch 43 Plus e refl) ∙ rw (not_followed behind none) refl
