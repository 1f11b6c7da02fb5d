-- What the scanner cuts off a run is what stands there.
use Rattle.std.proofs.Common.{◌≡◌, ℕ, ◌≤◌, Bool, true, false, cond, eqb, List, [], ◌∷◌, length, drop, take, refl, ap, sym, subst, arith, Some, None}
use Rattle.std.specs.Prelude.{◌&&◌, ◌||◌}
use Rattle.std.specs.List.{list_all}
use Rattle.std.proofs.lemmas.Bool.Decides.{nat_tests}
use Rattle.std.proofs.lemmas.Bool.{and_parts, eqb-true}
use Rattle.std.proofs.lemmas.List.{length-take}
use Rattle.cob_lex.specs.declared.text.Mark.{Mark}
use Rattle.cob_lex.specs.declared.cut.Shape.{Shape}
use Rattle.cob_lex.specs.declared.cut.Shape.TheVariants.{Word, Number, Symbol}
use Rattle.cob_lex.specs.declared.cut.Due.TheVariants.{Nothing}
use Rattle.cob_lex.specs.declared.cut.Cut.{Cut}
use Rattle.cob_lex.specs.Marks.{run_len, run_of}
use Rattle.cob_lex.specs.Words.{spelled_keyword}
use Rattle.cob_lex.specs.WordTests.{is_word, is_unsigned, is_minus}
use Rattle.cob_lex.specs.Cuts.{token_of_len, single, ended, is_lone_hyphen, run_token}
use Rattle.cob_lex.specs.Characters.{ch_at, is_digit, is_sign, ends_rightly, goes_on}
use Rattle.cob_lex.specs.Tokens.{Stands, IsUnsigned, is_mark, MarkEnds, is_decimal_mark, without_sign, with_sign, a_word, a_number, a_mark}
use Rattle.cob_lex.proofs.Runs.{run_on, run_stops, run_ends}
use Rattle.cob_lex.proofs.RunTests.{is_the_word, is_the_number}

-- what is cut off stands there
abbrev pub IsThere : Bool → List Mark → Cut → Type 0
IsThere free text c = Stands free Nothing (take c.length text) (drop c.length text) c.shape

run_short : (xs : List Mark) → run_len xs ≤ length xs
run_short [] = let e = run_stops [] refl in omega (arith, e)
run_short (m ∷ ms) = by_bool (goes_on (m ∷ ms)) refl (run_short ms)
  where
    by_bool : (b : Bool) → goes_on (m ∷ ms) ≡ b → run_len ms ≤ length ms → run_len (m ∷ ms) ≤ length (m ∷ ms)
    by_bool true e more = omega (arith, run_on m ms e, more)
    by_bool false e more = omega (arith, run_stops (m ∷ ms) e)

pub run_width : (xs : List Mark) → length (run_of xs) ≡ run_len xs
run_width xs = let e = run_short xs in omega (arith, length-take (run_len xs) xs, e)

pub some_cut : (shape : Shape) (n : ℕ) (text : List Mark) (c : Cut) → ended shape n text ≡ Some c → (ends_rightly (drop n text) ≡ true) × (token_of_len shape n ≡ c)
some_cut shape n text c e = by_bool (ends_rightly (drop n text)) refl
  where
    by_bool : (b : Bool) → ends_rightly (drop n text) ≡ b → (ends_rightly (drop n text) ≡ true) × (token_of_len shape n ≡ c)
    by_bool true f = (f, let g : Some (token_of_len shape n) ≡ Some c = rw f at e in cc)
    by_bool false f = absurd (let g : None ≡ Some c = rw f at e in cc)

-- a token of a run's length
whole_run : (free : Bool) (shape : Shape) (text : List Mark) (c : Cut) → token_of_len shape (length (run_of text)) ≡ c → Stands free Nothing (run_of text) (drop (length (run_of text)) text) (Some shape) → IsThere free text c
whole_run free shape text c e h =
    subst (IsThere free text) e
    (subst (λ (front : List Mark). Stands free Nothing front (drop (length (run_of text)) text) (Some shape)) (ap (λ n. take n text) (sym (run_width text))) h)

-- a mark alone
pub mark_stands : (free : Bool) (m : Mark) (ms : List Mark) → is_mark m.ch ≡ true → MarkEnds free m.ch ms → Stands free Nothing (m ∷ []) ms (Some Symbol)
mark_stands free m ms is ends = a_mark (record { ch = m.ch; mark = is; spells = refl }) ends

no_hyphen_plus : (ch : ℕ) → ch ≡ 45 → ch ≡ 43 → ⊥
no_hyphen_plus ch e f = omega (arith, e, f)

hyphen_stands : (free : Bool) (m : Mark) (ms : List Mark) → m.ch ≡ 45 → goes_on ms ≡ false → Stands free Nothing (m ∷ []) ms (Some Symbol)
hyphen_stands free m ms code stop =
    mark_stands free m ms (rw code refl) (record { hyphen = λ e. stop; plus = λ e f n. no_hyphen_plus m.ch code e })

hyphen_there : (free : Bool) (text : List Mark) (c : Cut) → is_lone_hyphen (run_of text) ≡ true → single Symbol ≡ Some c → IsThere free text c
hyphen_there free [] c e f = absurd (let none : run_len [] ≡ 0 = run_stops [] refl in let w = run_width [] in let p = and_parts (eqb (length (run_of [])) 1) (eqb (ch_at (run_of []) 0) 45) e in let l = eqb-true (length (run_of [])) 1 p.0 in omega (arith, none, w, l))
hyphen_there free (m ∷ ms) c e f =
    let p = and_parts (eqb (length (run_of (m ∷ ms))) 1) (eqb (ch_at (run_of (m ∷ ms)) 0) 45) e in
    let l = eqb-true (length (run_of (m ∷ ms))) 1 p.0 in
    let w = run_width (m ∷ ms) in
    let one : run_len (m ∷ ms) ≡ 1 = omega (arith, l, w) in
    let code : m.ch ≡ 45 = eqb-true m.ch 45 (subst (λ n. eqb (ch_at (take n (m ∷ ms)) 0) 45 ≡ true) one p.1) in
    let stop : goes_on ms ≡ false = subst (λ n. goes_on (drop n (m ∷ ms)) ≡ false) one (run_ends (m ∷ ms)) in
    let same : token_of_len Symbol 1 ≡ c = cc in
    subst (IsThere free (m ∷ ms)) same (hyphen_stands free m ms code stop)

minus_there : (text : List Mark) (c : Cut) → is_minus (run_of text) ≡ true → ended Number (length (run_of text)) text ≡ Some c → IsThere true text c
minus_there text c e f =
    let r = some_cut Number (length (run_of text)) text c f in
    whole_run true Number text c r.1 (by_front (run_of text) e r.0)
  where
    by_front : (front : List Mark) → is_minus front ≡ true → ends_rightly (drop (length (run_of text)) text) ≡ true → Stands true Nothing front (drop (length (run_of text)) text) (Some Number)
    by_front [] g h = absurd (let k : false ≡ true = g in cc)
    by_front (m ∷ front) g h =
        let p = and_parts (eqb m.ch 45) (is_unsigned front) g in
        let code : m.ch ≡ 45 = eqb-true m.ch 45 p.0 in
        a_number (with_sign (rw code refl) (is_the_number front p.1)) (λ e. refl) h

-- a number without a sign begins with none
pub no_sign : (front : List Mark) → IsUnsigned front → is_sign (ch_at front 0) ≡ true → ⊥
no_sign [] is e = absurd (let f : false ≡ true = e in cc)
no_sign (m ∷ front) is e = unlike m.ch (and_parts (is_decimal_mark m) (list_all is_decimal_mark front) is.characters).0 e
  where
    unlike : (ch : ℕ) → (is_digit ch || eqb ch 46) ≡ true → is_sign ch ≡ true → ⊥
    unlike ch e f = let g : is_sign ch ≡ false = grind (arith, nat_tests) in cc

number_there : (free : Bool) (text : List Mark) (c : Cut) → is_unsigned (run_of text) ≡ true → ended Number (length (run_of text)) text ≡ Some c → IsThere free text c
number_there free text c e f = let r = some_cut Number (length (run_of text)) text c f in whole_run free Number text c r.1 (a_number (without_sign (is_the_number (run_of text) e)) (λ s. absurd (no_sign (run_of text) (is_the_number (run_of text) e) s)) r.0)

word_there : (free : Bool) (text : List Mark) (c : Cut) → is_word (run_of text) ≡ true → ended (Word (spelled_keyword (run_of text))) (length (run_of text)) text ≡ Some c → IsThere free text c
word_there free text c e f =
    let r = some_cut (Word (spelled_keyword (run_of text))) (length (run_of text)) text c f in
    whole_run free (Word (spelled_keyword (run_of text))) text c r.1 (a_word (is_the_word (run_of text) e) r.0)

pub run_found : (free : Bool) (text : List Mark) (c : Cut) → run_token free (run_of text) text ≡ Some c → IsThere free text c
run_found free text c e = by_hyphen (is_lone_hyphen (run_of text)) refl
  where
    by_sign : (f : Bool) (b : Bool) → is_minus (run_of text) ≡ b → cond (f && b) (ended Number (length (run_of text)) text) None ≡ Some c → IsThere f text c
    by_sign true true m g = minus_there text c m g
    by_sign true false m g = absurd cc
    by_sign false b m g = absurd cc

    by_number : (b : Bool) → is_unsigned (run_of text) ≡ b → cond (b || (free && is_minus (run_of text))) (ended Number (length (run_of text)) text) None ≡ Some c → IsThere free text c
    by_number true u g = number_there free text c u g
    by_number false u g = by_sign free (is_minus (run_of text)) refl g

    by_word : (b : Bool) → is_word (run_of text) ≡ b → cond b (ended (Word (spelled_keyword (run_of text))) (length (run_of text)) text) (cond (is_unsigned (run_of text) || (free && is_minus (run_of text))) (ended Number (length (run_of text)) text) None) ≡ Some c → IsThere free text c
    by_word true w g = word_there free text c w g
    by_word false w g = by_number (is_unsigned (run_of text)) refl g

    by_hyphen : (b : Bool) → is_lone_hyphen (run_of text) ≡ b → IsThere free text c
    by_hyphen true h = hyphen_there free text c h (let g : single Symbol ≡ Some c = rw h at e in g)
    by_hyphen false h = by_word (is_word (run_of text)) refl (rw h at e)
