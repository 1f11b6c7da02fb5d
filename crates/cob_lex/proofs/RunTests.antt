-- The scanner's tests of a run are what the rows say of its characters.
use Rattle.std.proofs.Common.{◌≡◌, ℕ, ◌+◌, ◌≤◌, Bool, true, false, cond, eqb, List, [], ◌∷◌, length, refl, arith}
use Rattle.std.specs.Prelude.{◌&&◌, ◌||◌, count_by}
use Rattle.std.specs.List.{list_all}
use Rattle.std.proofs.lemmas.Bool.{and_parts}
use Rattle.std.proofs.lemmas.Bool.Decides.{nat_tests}
use Rattle.std.proofs.lemmas.List.Sums.{sum_by-cons, count_by-le-length}
use Rattle.cob_lex.specs.declared.text.Mark.{Mark}
use Rattle.cob_lex.specs.Characters.{is_digit}
use Rattle.cob_lex.specs.WordTests.{is_word, is_unsigned}
use Rattle.cob_lex.specs.Tokens.{is_word_mark, is_point, is_decimal_mark, is_digit_mark, IsWord, IsUnsigned}

abbrev weight : Bool → ℕ
weight b = cond b 1 0

count_on : (p : Mark → Bool) (m : Mark) (xs : List Mark) → count_by p (m ∷ xs) ≡ weight (p m) + count_by p xs
count_on p m xs = sum_by-cons (λ x. cond (p x) 1 0) m xs

and_of : (a b : Bool) → a ≡ true → b ≡ true → (a && b) ≡ true
and_of a b e f = rw (e, f) refl

count_all : (p : Mark → Bool) (xs : List Mark) → list_all p xs ≡ true → count_by p xs ≡ length xs
count_all p [] e = refl
count_all p (m ∷ xs) e =
    let parts = and_parts (p m) (list_all p xs) e in
    let one : weight (p m) ≡ 1 = rw parts.0 refl in
    let rest = count_all p xs parts.1 in
    omega (arith, count_on p m xs, one, rest)

all_counted : (p : Mark → Bool) (xs : List Mark) → count_by p xs ≡ length xs → list_all p xs ≡ true
all_counted p [] e = refl
all_counted p (m ∷ xs) e = by_bool (p m) refl (λ f. all_counted p xs f)
  where
    by_bool : (b : Bool) → p m ≡ b → (count_by p xs ≡ length xs → list_all p xs ≡ true) → list_all p (m ∷ xs) ≡ true
    by_bool true f go = let one : weight (p m) ≡ 1 = rw f refl in and_of (p m) (list_all p xs) f (go (omega (arith, count_on p m xs, one, e)))
    by_bool false f go = absurd (let none : weight (p m) ≡ 0 = rw f refl in let few = count_by-le-length p xs in omega (arith, count_on p m xs, none, few, e))

-- each is a digit or a point exactly where digits and points make up the length
decimals : (xs : List Mark) → list_all is_decimal_mark xs ≡ true → count_by is_digit_mark xs + count_by is_point xs ≡ length xs
decimals [] e = refl
decimals (m ∷ xs) e =
    let parts = and_parts (is_decimal_mark m) (list_all is_decimal_mark xs) e in
    let rest = decimals xs parts.1 in
    let one = one_of m.ch parts.0 in
    omega (arith, count_on is_digit_mark m xs, count_on is_point m xs, one, rest)
  where
    one_of : (ch : ℕ) → (is_digit ch || eqb ch 46) ≡ true → weight (is_digit ch) + weight (eqb ch 46) ≡ 1
    one_of ch e = grind (arith, nat_tests)

at_most_one : (ch : ℕ) → weight (is_digit ch) + weight (eqb ch 46) ≤ 1
at_most_one ch = grind (arith, nat_tests)

few_decimals : (xs : List Mark) → count_by is_digit_mark xs + count_by is_point xs ≤ length xs
few_decimals [] = omega arith
few_decimals (m ∷ xs) = let one = at_most_one m.ch in let rest = few_decimals xs in omega (arith, count_on is_digit_mark m xs, count_on is_point m xs, one, rest)

are_decimals : (xs : List Mark) → count_by is_digit_mark xs + count_by is_point xs ≡ length xs → list_all is_decimal_mark xs ≡ true
are_decimals [] e = refl
are_decimals (m ∷ xs) e =
    let one = at_most_one m.ch in
    let few = few_decimals xs in
    and_of (is_decimal_mark m) (list_all is_decimal_mark xs) (is_one m.ch (omega (arith, count_on is_digit_mark m xs, count_on is_point m xs, one, few, e))) (are_decimals xs (omega (arith, count_on is_digit_mark m xs, count_on is_point m xs, one, few, e)))
  where
    is_one : (ch : ℕ) → weight (is_digit ch) + weight (eqb ch 46) ≡ 1 → (is_digit ch || eqb ch 46) ≡ true
    is_one ch e = grind (arith, nat_tests)

pub word_is : (front : List Mark) → IsWord front → is_word front ≡ true
word_is front is =
    let all = count_all is_word_mark front is.characters in
    let some = is.some in let few = is.few in let letter = is.letter in let first = is.first in let last = is.last in
    grind (arith, nat_tests, all, some, few, letter, first, last)

pub is_the_word : (front : List Mark) → is_word front ≡ true → IsWord front
is_the_word front e =
    let all : count_by is_word_mark front ≡ length front = grind (arith, nat_tests) in
    record {
      some = grind (arith, nat_tests);
      few = grind (arith, nat_tests);
      characters = all_counted is_word_mark front all;
      letter = grind (arith, nat_tests);
      first = grind (arith, nat_tests);
      last = grind (arith, nat_tests);
    }

pub number_is : (front : List Mark) → IsUnsigned front → is_unsigned front ≡ true
number_is front is =
    let all = decimals front is.characters in
    let some = is.some in let few = is.few in let point = is.point in let last = is.last in
    grind (arith, nat_tests, all, some, few, point, last)

pub is_the_number : (front : List Mark) → is_unsigned front ≡ true → IsUnsigned front
is_the_number front e =
    let all : count_by is_digit_mark front + count_by is_point front ≡ length front = grind (arith, nat_tests) in
    record {
      characters = are_decimals front all;
      some = grind (arith, nat_tests);
      few = grind (arith, nat_tests);
      point = grind (arith, nat_tests);
      last = grind (arith, nat_tests);
    }
