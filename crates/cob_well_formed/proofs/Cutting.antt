-- A number of a text has at most 18 digits, and rewriting makes one of one digit longer by a zero.
use Rattle.std.proofs.Common.{◌≡◌, ℕ, ◌≤◌, Bool, true, false, cond, List, length, Option, Some, refl, ap, subst, arith}
use Rattle.std.proofs.lemmas.Bool.Decides.{nat_tests}
use Rattle.std.proofs.lemmas.List.Sums.{sum_by-cons, count_by-le-length}
use Rattle.cob_lex.specs.declared.text.Mark.{Mark}
use Rattle.cob_lex.specs.declared.cut.Shape.{Shape}
use Rattle.cob_lex.specs.declared.cut.Shape.TheVariants.{Word, Number, Padded, Literal, Symbol, Relation, Stop, PictureString}
use Rattle.cob_lex.specs.declared.cut.Due.{Due}
use Rattle.cob_lex.specs.Characters.{is_digit, is_sign}
use Rattle.cob_lex.specs.WordTests.{digits_in}
use Rattle.cob_lex.specs.Tokens.{IsNumber, without_sign, with_sign, Stands, a_separator, a_word, a_number, a_text, a_mark, a_relation, a_stop, the_word_is, a_picture}
use Rattle.cob_lex.proofs.EachToken.{HoldsOfRows, same_shape, IsKept}

-- at most 18 digits among the characters of a number, and room for one more where it gets a zero
abbrev pub HasFewDigits : Shape → List Mark → Type 0
HasFewDigits Number front = digits_in front ≤ 18
HasFewDigits Padded front = digits_in front ≤ 17
HasFewDigits (Word word) front = Unit {0}
HasFewDigits Literal front = Unit {0}
HasFewDigits Symbol front = Unit {0}
HasFewDigits (Relation r) front = Unit {0}
HasFewDigits Stop front = Unit {0}
HasFewDigits PictureString front = Unit {0}

sign_no_digit : (ch : ℕ) → is_sign ch ≡ true → is_digit ch ≡ false
sign_no_digit ch e = grind (arith, nat_tests)

number_few : (front : List Mark) → IsNumber front → digits_in front ≤ 18
number_few front (without_sign is) = is.few
number_few front (with_sign {m = m} {front = digits} sign is) =
    let counted = sum_by-cons (λ (x : Mark). cond (is_digit x.ch) 1 0) m digits in
    let none : ◌≡◌ {A = ℕ} (cond (is_digit m.ch) 1 0) 0 = ap (λ b. cond b 1 0) (sign_no_digit m.ch sign) in
    let few = is.few in
    omega (arith, counted, none, few)

row_few : {free : Bool} {due : Due} {front behind : List Mark} {shape : Option Shape} → Stands free due front behind shape → (s : Shape) → shape ≡ Some s → HasFewDigits s front
row_few (a_separator e) s same = absurd cc
row_few {front = front} (a_word is e) s same = subst (λ (o : Shape). HasFewDigits o front) (same_shape _ s same) tt
row_few {front = front} (a_number is may e) s same = subst (λ (o : Shape). HasFewDigits o front) (same_shape _ s same) (number_few front is)
row_few {front = front} (a_text is e) s same = subst (λ (o : Shape). HasFewDigits o front) (same_shape _ s same) tt
row_few {front = front} (a_mark is e) s same = subst (λ (o : Shape). HasFewDigits o front) (same_shape _ s same) tt
row_few {front = front} (a_relation r is e) s same = subst (λ (o : Shape). HasFewDigits o front) (same_shape _ s same) tt
row_few {front = front} (a_stop is e) s same = subst (λ (o : Shape). HasFewDigits o front) (same_shape _ s same) tt
row_few {front = front} (the_word_is is e) s same = subst (λ (o : Shape). HasFewDigits o front) (same_shape _ s same) tt
row_few {front = front} (a_picture is e d) s same = subst (λ (o : Shape). HasFewDigits o front) (same_shape _ s same) tt

pub rows_few : HoldsOfRows HasFewDigits
rows_few free due front behind shape h = row_few h shape refl

one_digit : (front : List Mark) → length front ≤ 1 → digits_in front ≤ 17
one_digit front short = omega (arith, short, count_by-le-length (λ (m : Mark). is_digit m.ch) front)

pub kept_few : IsKept HasFewDigits
kept_few = record { word = λ k shape front h. tt; relation = λ r shape front h. tt; digit = λ front short h. one_digit front short }
