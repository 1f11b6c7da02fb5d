-- How far a run goes, and what its first character is.
use Rattle.std.proofs.Common.{◌≡◌, ℕ, suc, ◌+◌, ◌-◌, ◌≤◌, Bool, true, false, cond, eqb, List, [], ◌∷◌, ◌++◌, length, drop, refl, ap, ◌∙◌, sym, arith}
use Rattle.std.specs.Prelude.{◌||◌, count_by}
use Rattle.std.specs.List.{list_all}
use Rattle.std.proofs.lemmas.Bool.{and_parts}
use Rattle.std.proofs.lemmas.Bool.Decides.{nat_tests}
use Rattle.std.proofs.lemmas.List.Sums.{sum_by-cons}
use Rattle.cob_lex.specs.declared.text.Mark.{Mark}
use Rattle.cob_lex.specs.declared.mark.Class.TheVariants.{Run}
use Rattle.cob_lex.specs.Marks.{class_of, run_len}
use Rattle.cob_lex.specs.Characters.{ch_at, is_digit, is_word_character, is_gap, ends_rightly, goes_on}
use Rattle.cob_lex.specs.Tokens.{is_word_mark, is_point, is_decimal_mark}

pub run_stops : (xs : List Mark) → goes_on xs ≡ false → run_len xs ≡ 0
unfolding run_len
run_stops [] e = refl
run_stops (m ∷ ms) e = rw e refl

pub run_on : (m : Mark) (xs : List Mark) → goes_on (m ∷ xs) ≡ true → run_len (m ∷ xs) ≡ 1 + run_len xs
unfolding run_len
run_on m xs e = rw e refl

or_left : (a b : Bool) → a ≡ true → (a || b) ≡ true
or_left a b e = rw e refl

pub word_run : (front behind : List Mark) → list_all is_word_mark front ≡ true → goes_on behind ≡ false → run_len (front ++ behind) ≡ length front
word_run [] behind all stop = run_stops behind stop
word_run (m ∷ front) behind all stop =
    let parts = and_parts (is_word_mark m) (list_all is_word_mark front) all in
    run_on m (front ++ behind) (or_left (is_word_mark m) _ parts.0) ∙ ap (λ n. 1 + n) (word_run front behind parts.1 stop) ∙ omega arith

-- ---- numbers
abbrev pub weight : Bool → ℕ
weight b = cond b 1 0

pub count_on : (p : Mark → Bool) (m : Mark) (xs : List Mark) → count_by p (m ∷ xs) ≡ weight (p m) + count_by p xs
count_on p m xs = sum_by-cons (λ x. cond (p x) 1 0) m xs

pub last_on : (m n : Mark) (rest : List Mark) → ch_at (m ∷ n ∷ rest) (length (m ∷ n ∷ rest) - 1) ≡ ch_at (n ∷ rest) (length (n ∷ rest) - 1)
last_on m n rest = let e : length (m ∷ n ∷ rest) - 1 ≡ suc (length (n ∷ rest) - 1) = omega arith in ap (λ k. ch_at (m ∷ n ∷ rest) k) e

digit_goes_on : (m : Mark) (xs : List Mark) → is_digit m.ch ≡ true → goes_on (m ∷ xs) ≡ true
digit_goes_on m xs e = grind (arith, nat_tests)

point_goes_on : (m n : Mark) (xs : List Mark) → eqb m.ch 46 ≡ true → is_digit n.ch ≡ true → goes_on (m ∷ n ∷ xs) ≡ true
point_goes_on m n xs e f = grind (arith, nat_tests)

pub or_first : (a b : Bool) → (a || b) ≡ true → b ≡ false → a ≡ true
or_first true b e f = refl
or_first false b e f = absurd cc

pub or_second : (a b : Bool) → (a || b) ≡ true → a ≡ false → b ≡ true
or_second a b e f = rw f at e

pub counted_point : (n : Mark) (rest : List Mark) → count_by is_point (n ∷ rest) ≤ 0 → eqb n.ch 46 ≡ false
counted_point n rest none = by_bool (eqb n.ch 46) refl
  where
    by_bool : (b : Bool) → eqb n.ch 46 ≡ b → b ≡ false
    by_bool false e = refl
    by_bool true e = absurd (let c = count_on is_point n rest in let d : weight (is_point n) ≡ 1 = rw e refl in omega (arith, c, d, none))

pub number_run : (front behind : List Mark) → list_all is_decimal_mark front ≡ true → count_by is_point front ≤ 1 → eqb (ch_at front (length front - 1)) 46 ≡ false → goes_on behind ≡ false → run_len (front ++ behind) ≡ length front
number_run [] behind all point last stop = run_stops behind stop
number_run (m ∷ []) behind all point last stop =
    let parts = and_parts (is_decimal_mark m) true all in
    let last : eqb m.ch 46 ≡ false = last in
    run_on m behind (digit_goes_on m behind (or_first (is_digit m.ch) (eqb m.ch 46) parts.0 last)) ∙ ap (λ n. 1 + n) (run_stops behind stop)
number_run (m ∷ n ∷ rest) behind all point last stop =
    let parts = and_parts (is_decimal_mark m) (list_all is_decimal_mark (n ∷ rest)) all in
    let second = and_parts (is_decimal_mark n) (list_all is_decimal_mark rest) parts.1 in
    run_on m (n ∷ rest ++ behind) (by_digit (is_digit m.ch) refl parts.0 second.0)
    ∙ ap (λ k. 1 + k) (number_run (n ∷ rest) behind parts.1 (omega (arith, point, count_on is_point m (n ∷ rest))) (ap (λ c. eqb c 46) (sym (last_on m n rest)) ∙ last) stop) ∙ omega arith
  where
    by_digit : (b : Bool) → is_digit m.ch ≡ b → is_decimal_mark m ≡ true → is_decimal_mark n ≡ true → goes_on (m ∷ n ∷ (rest ++ behind)) ≡ true
    by_digit true e is are = digit_goes_on m (n ∷ (rest ++ behind)) e
    by_digit false e is are =
        let f : eqb m.ch 46 ≡ true = or_second (is_digit m.ch) (eqb m.ch 46) is e in
        let c = count_on is_point m (n ∷ rest) in
        let d : weight (is_point m) ≡ 1 = rw f refl in
        let none : eqb n.ch 46 ≡ false = counted_point n rest (omega (arith, point, c, d)) in
        point_goes_on m n (rest ++ behind) f (or_first (is_digit n.ch) (eqb n.ch 46) are none)

-- ---- classes
pub word_class : (ch : ℕ) → is_word_character ch ≡ true → class_of ch ≡ Run
word_class ch e = grind (arith, nat_tests)

pub no_gap : (m : Mark) (xs : List Mark) → is_word_character m.ch ≡ true → is_gap (m ∷ xs) ≡ false
no_gap m xs e = grind (arith, nat_tests)

pub ended_stops : (xs : List Mark) → ends_rightly xs ≡ true → goes_on xs ≡ false
ended_stops xs e = grind (arith, nat_tests)

-- a run ends where the text doesn't go on
pub run_ends : (xs : List Mark) → goes_on (drop (run_len xs) xs) ≡ false
unfolding run_len
run_ends [] = refl
run_ends (m ∷ ms) = by_bool (goes_on (m ∷ ms)) refl (run_ends ms)
  where
    by_bool : (b : Bool) → goes_on (m ∷ ms) ≡ b → goes_on (drop (run_len ms) ms) ≡ false → goes_on (drop (run_len (m ∷ ms)) (m ∷ ms)) ≡ false
    by_bool true e more = let f : run_len (m ∷ ms) ≡ suc (run_len ms) = run_on m ms e ∙ omega arith in rw f more
    by_bool false e more = rw (run_stops (m ∷ ms) e) e
