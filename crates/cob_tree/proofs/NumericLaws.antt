-- Numeric words, by their shape and by their counts.
use Rattle.std.proofs.Common.{◌≡◌, ℕ, ◌+◌, ◌<◌, ◌≤◌, zero, suc, Bool, true, false, not, cond, eqb, leb, ltb, ◌&&◌, List, [], ◌∷◌, ◌++◌, length, drop, replicate, count_by, Option, Some, None, refl, ap, ◌∙◌, sym, subst, ⊎_elim, arith}
use Rattle.std.proofs.lemmas.Bool.{and_parts, and_from, leb-true, le-leb, lt-ltb, le-ltb, eqb-true, eq-eqb, cases_lt, or_parts, or_from, not-true, not_from_false}
use Rattle.std.proofs.lemmas.Bool.Decides.{nat_tests}
use Rattle.std.proofs.lemmas.List.Sums.{sum_by-cons}
use Rattle.std.specs.List.{list_all, list_any, position_or_len}
use Rattle.cob_tree.specs.declared.form.Form.TheVariants.{Number}
use Rattle.cob_tree.specs.declared.form.Usage.{Usage}
use Rattle.cob_tree.specs.declared.form.Usage.TheVariants.{Display}
use Rattle.cob_tree.specs.Pictures.{IsForm, IsNumberForm, sign_symbols, decimal_symbols, decimals, is_numeric_symbol, has, symbol_count, behind, behind_first, is_digit_count}
use Rattle.cob_tree.specs.PictureForms.{is_signed_rightly, is_numeric, number_form}

count-cons : (p : ℕ → Bool) (c : ℕ) (cs : List ℕ) → count_by p (c ∷ cs) ≡ cond (p c) 1 0 + count_by p cs
count-cons p c cs = sum_by-cons (λ x. cond (p x) 1 0) c cs

-- what holds behind the sign
record Counts (word : List ℕ) (digits scale : ℕ) : Type 0 where
  symbols : list_all is_numeric_symbol word ≡ true
  unsigned : has 83 word ≡ false
  points : symbol_count 86 word ≤ 1
  digits_are : symbol_count 57 word ≡ digits
  scale_is : symbol_count 57 (behind_first 86 word) ≡ scale

found_behind : (k n x : ℕ) (xs : List ℕ) → behind (cond (ltb (1 + k) (suc n)) (Some (1 + k)) None) (x ∷ xs) ≡ behind (cond (ltb k n) (Some k) None) xs
found_behind k n x xs =
    ⊎_elim
    (λ (lt : k < n).
    let more : 1 + k < suc n = omega arith in
    let count : 1 + k + 1 ≡ suc (k + 1) = omega arith in
    rw (lt-ltb k n lt, lt-ltb (1 + k) (suc n) more) (ap (λ j. drop j (x ∷ xs)) count))
    (λ (le : n ≤ k). let more : suc n ≤ 1 + k = omega arith in rw (le-ltb k n le, le-ltb (1 + k) (suc n) more) refl)
    (cases_lt k n)

behind_cons : (c x : ℕ) (xs : List ℕ) → eqb x c ≡ false → behind_first c (x ∷ xs) ≡ behind_first c xs
behind_cons c x xs other = rw other (found_behind (position_or_len (λ y. eqb y c) xs) (length xs) x xs)

behind_here : (c : ℕ) (xs : List ℕ) → behind_first c (c ∷ xs) ≡ xs
behind_here c xs =
    let same : eqb c c ≡ true = eq-eqb c c refl in
    let some : 0 < suc (length xs) = omega arith in
    rw (same, lt-ltb 0 (suc (length xs)) some) refl

behind_none : (c : ℕ) (xs : List ℕ) → has c xs ≡ false → behind_first c xs ≡ []
behind_none c [] none = refl
behind_none c (x ∷ xs) none =
    let parts = or_parts (eqb x c) (has c xs) none in
    behind_cons c x xs parts.0 ∙ behind_none c xs parts.1

no_symbols : Counts [] 0 0
no_symbols = record { symbols = refl; unsigned = refl; points = omega arith; digits_are = refl; scale_is = refl }

nine_more : (word : List ℕ) (digits scale : ℕ) → Counts word digits scale → Counts (57 ∷ word) (suc digits) scale
nine_more word digits scale h = record {
  symbols = h.symbols;
  unsigned = h.unsigned;
  points = omega (arith, count-cons (λ x. eqb x 86) 57 word, h.points);
  digits_are = omega (arith, count-cons (λ x. eqb x 57) 57 word, h.digits_are);
  scale_is = ap (symbol_count 57) (behind_cons 86 57 word refl) ∙ h.scale_is;
}

nines_more : (n : ℕ) (word : List ℕ) (digits scale : ℕ) → Counts word digits scale → Counts (replicate n 57 ++ word) (n + digits) scale
nines_more zero word digits scale h = subst (λ (d : ℕ). Counts word d scale) (omega arith) h
nines_more (suc n) word digits scale h = subst (λ (d : ℕ). Counts (57 ∷ (replicate n 57 ++ word)) d scale) (omega arith) (nine_more (replicate n 57 ++ word) (n + digits) scale (nines_more n word digits scale h))

no_point : (n : ℕ) → has 86 (replicate n 57) ≡ false
no_point zero = refl
no_point (suc n) = no_point n

none_counted : (p : ℕ → Bool) (word : List ℕ) → list_any p word ≡ false → count_by p word ≡ 0
none_counted p [] none = refl
none_counted p (c ∷ cs) none =
    let parts = or_parts (p c) (list_any p cs) none in
    count-cons p c cs ∙ rw (parts.0, none_counted p cs parts.1) refl

nines : (n : ℕ) → Counts (replicate n 57) n 0
nines zero = no_symbols
nines (suc n) = nine_more (replicate n 57) n 0 (nines n)

decimals_count : (d : Option ℕ) → Counts (decimal_symbols d) (decimals d) (decimals d)
decimals_count None = no_symbols
decimals_count (Some n) = record {
  symbols = (nines n).symbols;
  unsigned = (nines n).unsigned;
  points = omega (arith, count-cons (λ x. eqb x 86) 86 (replicate n 57), none_counted (λ x. eqb x 86) (replicate n 57) (no_point n));
  digits_are = count-cons (λ x. eqb x 57) 86 (replicate n 57) ∙ (omega (arith, (nines n).digits_are));
  scale_is = ap (symbol_count 57) (behind_here 86 (replicate n 57)) ∙ (nines n).digits_are;
}

unsigned_counts : (whole : ℕ) (d : Option ℕ) → Counts (replicate whole 57 ++ decimal_symbols d) (whole + decimals d) (decimals d)
unsigned_counts whole d = nines_more whole (decimal_symbols d) (decimals d) (decimals d) (decimals_count d)

-- the tests of a numeric word, and its counts
record IsNumber (word : List ℕ) (digits scale : ℕ) (signed : Bool) : Type 0 where
  numeric : is_numeric word ≡ true
  digits_are : symbol_count 57 word ≡ digits
  scale_is : symbol_count 57 (behind_first 86 word) ≡ scale
  sign_is : has 83 word ≡ signed

unsigned_behind : (word : List ℕ) → has 83 word ≡ false → has 83 (drop 1 word) ≡ false
unsigned_behind [] none = refl
unsigned_behind (c ∷ cs) none = (or_parts (eqb c 83) (has 83 cs) none).1

digits_counted : (signed : Bool) (whole : ℕ) (point : Option ℕ) → symbol_count 57 (sign_symbols signed ++ (replicate whole 57 ++ decimal_symbols point)) ≡ whole + decimals point
digits_counted false whole point = (unsigned_counts whole point).digits_are
digits_counted true whole point =
    count-cons (λ x. eqb x 57) 83 (replicate whole 57 ++ decimal_symbols point) ∙ omega (arith, (unsigned_counts whole point).digits_are)

numeric_from : (word : List ℕ) (digits : ℕ) → list_all is_numeric_symbol word ≡ true → has 83 (drop 1 word) ≡ false → symbol_count 86 word ≤ 1 → symbol_count 57 word ≡ digits → is_digit_count digits ≡ true → is_numeric word ≡ true
numeric_from word digits symbols signs points count allowed =
    and_from (list_all is_numeric_symbol word && is_signed_rightly word) (is_digit_count (symbol_count 57 word))
    (and_from (list_all is_numeric_symbol word) (is_signed_rightly word) symbols
    (and_from (not (has 83 (drop 1 word))) (leb (symbol_count 86 word) 1) (not_from_false (has 83 (drop 1 word)) signs) (le-leb (symbol_count 86 word) 1 points)))
    (ap is_digit_count count ∙ allowed)

shape_counts : (signed : Bool) (word : List ℕ) (digits scale : ℕ) → Counts word digits scale → is_digit_count digits ≡ true → IsNumber (sign_symbols signed ++ word) digits scale signed
shape_counts false word digits scale h allowed = record {
  numeric = numeric_from word digits h.symbols (unsigned_behind word h.unsigned) h.points h.digits_are allowed;
  digits_are = h.digits_are;
  scale_is = h.scale_is;
  sign_is = h.unsigned;
}
shape_counts true word digits scale h allowed =
    let points : symbol_count 86 (83 ∷ word) ≤ 1 = omega (arith, count-cons (λ x. eqb x 86) 83 word, h.points) in
    let count : symbol_count 57 (83 ∷ word) ≡ digits = count-cons (λ x. eqb x 57) 83 word ∙ omega (arith, h.digits_are) in
    record {
      numeric = numeric_from (83 ∷ word) digits h.symbols h.unsigned points count allowed;
      digits_are = count;
      scale_is = ap (symbol_count 57) (behind_cons 86 83 word refl) ∙ h.scale_is;
      sign_is = refl;
    }

form_counts : (word : List ℕ) (digits scale : ℕ) (signed : Bool) (usage : Usage) → IsNumberForm word digits scale signed usage → IsNumber word digits scale signed
form_counts word digits scale signed usage f =
    rw (f.symbols, f.digits_are, f.scale_is)
    (shape_counts signed (replicate f.whole 57 ++ decimal_symbols f.point) (f.whole + decimals f.point) (decimals f.point)
    (unsigned_counts f.whole f.point) (ap is_digit_count (sym f.digits_are) ∙ f.allowed))

pub number_is_numeric : (word : List ℕ) (digits scale : ℕ) (signed : Bool) (usage : Usage) → IsNumberForm word digits scale signed usage → is_numeric word ≡ true
number_is_numeric word digits scale signed usage f = (form_counts word digits scale signed usage f).numeric

pub number_is : (word : List ℕ) (digits scale : ℕ) (signed : Bool) (usage : Usage) → IsNumberForm word digits scale signed usage → number_form word ≡ Number digits scale signed usage
number_is word digits scale signed usage f =
    let h = form_counts word digits scale signed usage f in
    let a = h.digits_are in let b = h.scale_is in let c = h.sign_is in let d = f.usage_is in cc

-- ---- the shape of a numeric word

record Shape (word : List ℕ) : Type 0 where
  whole : ℕ
  point : Option ℕ
  symbols : word ≡ replicate whole 57 ++ decimal_symbols point

nine_here : (c : ℕ) → is_numeric_symbol c ≡ true → eqb c 83 ≡ false → eqb c 86 ≡ false → c ≡ 57
nine_here c allowed unsigned pointless = grind (arith, nat_tests)

all_nines : (word : List ℕ) → list_all is_numeric_symbol word ≡ true → has 83 word ≡ false → has 86 word ≡ false → word ≡ replicate (length word) 57
all_nines [] symbols unsigned pointless = refl
all_nines (c ∷ cs) symbols unsigned pointless =
    let here = and_parts (is_numeric_symbol c) (list_all is_numeric_symbol cs) symbols in
    let sign = or_parts (eqb c 83) (has 83 cs) unsigned in
    let point = or_parts (eqb c 86) (has 86 cs) pointless in
    ap (λ x. x ∷ cs) (nine_here c here.0 sign.0 point.0) ∙ ap (λ xs. 57 ∷ xs) (all_nines cs here.1 sign.1 point.1)

none_here : (b : Bool) (rest : ℕ) → cond b 1 0 + rest ≡ 0 → (b ≡ false) × (rest ≡ 0)
none_here true rest none = absurd (omega arith)
none_here false rest none = (refl, omega arith)

count_none : (p : ℕ → Bool) (word : List ℕ) → count_by p word ≡ 0 → list_any p word ≡ false
count_none p [] none = refl
count_none p (c ∷ cs) none =
    let parts = none_here (p c) (count_by p cs) (sym (count-cons p c cs) ∙ none) in
    or_from (p c) (list_any p cs) parts.0 (count_none p cs parts.1)

nine_before : (word : List ℕ) → Shape word → Shape (57 ∷ word)
nine_before word h = record { whole = suc h.whole; point = h.point; symbols = ap (λ xs. 57 ∷ xs) h.symbols }

decimals_behind : (word : List ℕ) → list_all is_numeric_symbol word ≡ true → has 83 word ≡ false → symbol_count 86 word ≡ 0 → Shape (86 ∷ word)
decimals_behind word symbols unsigned none = record {
  whole = 0;
  point = Some (length word);
  symbols = ap (λ xs. 86 ∷ xs) (all_nines word symbols unsigned (count_none (λ x. eqb x 86) word none));
}

shape_more : (c : ℕ) (cs : List ℕ) (point : Bool) → eqb c 86 ≡ point → is_numeric_symbol c ≡ true → list_all is_numeric_symbol cs ≡ true → eqb c 83 ≡ false → has 83 cs ≡ false → symbol_count 86 (c ∷ cs) ≤ 1 → Shape cs → Shape (c ∷ cs)
shape_more c cs true is here symbols sign unsigned points rest =
    let e : c ≡ 86 = eqb-true c 86 is in
    let counted : symbol_count 86 (c ∷ cs) ≡ 1 + symbol_count 86 cs = count-cons (λ x. eqb x 86) c cs ∙ rw is refl in
    let none : symbol_count 86 cs ≡ 0 = omega (arith, counted, points) in
    subst (λ (x : ℕ). Shape (x ∷ cs)) (sym e) (decimals_behind cs symbols unsigned none)
shape_more c cs false is here symbols sign unsigned points rest =
    subst (λ (x : ℕ). Shape (x ∷ cs)) (sym (nine_here c here sign is)) (nine_before cs rest)

unsigned_shape : (word : List ℕ) → list_all is_numeric_symbol word ≡ true → has 83 word ≡ false → symbol_count 86 word ≤ 1 → Shape word
unsigned_shape [] symbols unsigned points = record { whole = 0; point = None; symbols = refl }
unsigned_shape (c ∷ cs) symbols unsigned points =
    let here = and_parts (is_numeric_symbol c) (list_all is_numeric_symbol cs) symbols in
    let sign = or_parts (eqb c 83) (has 83 cs) unsigned in
    let fewer : symbol_count 86 cs ≤ 1 = omega (arith, count-cons (λ x. eqb x 86) c cs, points) in
    shape_more c cs (eqb c 86) refl here.0 here.1 sign.0 sign.1 points (unsigned_shape cs here.1 sign.1 fewer)

-- a numeric word has a sign or none before such a shape
record SignedShape (word : List ℕ) : Type 0 where
  signed : Bool
  rest : List ℕ
  symbols : word ≡ sign_symbols signed ++ rest
  shape : Shape rest

signed_shape : (c : ℕ) (cs : List ℕ) (sign : Bool) → eqb c 83 ≡ sign → list_all is_numeric_symbol (c ∷ cs) ≡ true → has 83 cs ≡ false → symbol_count 86 (c ∷ cs) ≤ 1 → SignedShape (c ∷ cs)
signed_shape c cs true is symbols signs points =
    let here = and_parts (is_numeric_symbol c) (list_all is_numeric_symbol cs) symbols in
    let fewer : symbol_count 86 cs ≤ 1 = omega (arith, count-cons (λ x. eqb x 86) c cs, points) in
    record { signed = true; rest = cs; symbols = ap (λ x. x ∷ cs) (eqb-true c 83 is); shape = unsigned_shape cs here.1 signs fewer }
signed_shape c cs false is symbols signs points =
    record { signed = false; rest = c ∷ cs; symbols = refl; shape = unsigned_shape (c ∷ cs) symbols (or_from (eqb c 83) (has 83 cs) is signs) points }

any_shape : (word : List ℕ) → list_all is_numeric_symbol word ≡ true → has 83 (drop 1 word) ≡ false → symbol_count 86 word ≤ 1 → SignedShape word
any_shape [] symbols signs points = record { signed = false; rest = []; symbols = refl; shape = unsigned_shape [] refl refl (omega arith) }
any_shape (c ∷ cs) symbols signs points = signed_shape c cs (eqb c 83) refl symbols signs points

shape_form : (word : List ℕ) (h : SignedShape word) → is_digit_count (symbol_count 57 word) ≡ true → IsForm word (number_form word)
shape_form word h allowed =
    let point : Option ℕ = h.shape.point in
    let digits : ℕ = h.shape.whole + decimals point in
    let symbols : word ≡ sign_symbols h.signed ++ (replicate h.shape.whole 57 ++ decimal_symbols point) = h.symbols ∙ ap (λ xs. sign_symbols h.signed ++ xs) h.shape.symbols in
    let count : symbol_count 57 word ≡ digits = ap (symbol_count 57) symbols ∙ digits_counted h.signed h.shape.whole point in
    let f : IsNumberForm word digits (decimals point) h.signed Display = record { whole = h.shape.whole; point = point; symbols = symbols; digits_are = refl; scale_is = refl; allowed = ap is_digit_count (sym count) ∙ allowed; usage_is = refl } in
    subst (IsForm word) (sym (number_is word digits (decimals point) h.signed Display f)) f

pub numeric_has_form : (word : List ℕ) → is_numeric word ≡ true → IsForm word (number_form word)
numeric_has_form word numeric =
    let outer = and_parts (list_all is_numeric_symbol word && is_signed_rightly word) (is_digit_count (symbol_count 57 word)) numeric in
    let symbols = and_parts (list_all is_numeric_symbol word) (is_signed_rightly word) outer.0 in
    let signs = and_parts (not (has 83 (drop 1 word))) (leb (symbol_count 86 word) 1) symbols.1 in
    shape_form word (any_shape word symbols.0 (not-true (has 83 (drop 1 word)) signs.0) (leb-true (symbol_count 86 word) 1 signs.1)) outer.1

-- ---- a numeric word is short

one_of_three : (c : ℕ) → is_numeric_symbol c ≡ true → 1 ≤ cond (eqb c 57) 1 0 + cond (eqb c 83) 1 0 + cond (eqb c 86) 1 0
one_of_three c allowed = grind (arith, nat_tests)

counted_by_symbol : (word : List ℕ) → list_all is_numeric_symbol word ≡ true → length word ≤ symbol_count 57 word + symbol_count 83 word + symbol_count 86 word
counted_by_symbol [] all = omega arith
counted_by_symbol (c ∷ cs) all =
    let parts = and_parts (is_numeric_symbol c) (list_all is_numeric_symbol cs) all in
    let rest = counted_by_symbol cs parts.1 in
    let here = one_of_three c parts.0 in
    let nines = count-cons (λ x. eqb x 57) c cs in
    let signs = count-cons (λ x. eqb x 83) c cs in
    let points = count-cons (λ x. eqb x 86) c cs in
    rw (nines, signs, points) (omega arith)

at_most_first : (word : List ℕ) → has 83 (drop 1 word) ≡ false → symbol_count 83 word ≤ 1
at_most_first [] none = omega arith
at_most_first (c ∷ cs) none =
    let first = count-cons (λ x. eqb x 83) c cs in
    let rest : symbol_count 83 cs ≡ 0 = none_counted (λ x. eqb x 83) cs none in
    rw (first, rest) (grind arith)

pub numeric_is_short : (word : List ℕ) → is_numeric word ≡ true → length word ≤ 20
numeric_is_short word numeric =
    let parts = and_parts (list_all is_numeric_symbol word && is_signed_rightly word) (is_digit_count (symbol_count 57 word)) numeric in
    let symbols = and_parts (list_all is_numeric_symbol word) (is_signed_rightly word) parts.0 in
    let signs = and_parts (not (has 83 (drop 1 word))) (leb (symbol_count 86 word) 1) symbols.1 in
    let digits = and_parts (leb 1 (symbol_count 57 word)) (leb (symbol_count 57 word) 18) parts.1 in
    let all = counted_by_symbol word symbols.0 in
    let sign = at_most_first word (not-true (has 83 (drop 1 word)) signs.0) in
    omega (arith, leb-true (symbol_count 86 word) 1 signs.1, leb-true (symbol_count 57 word) 18 digits.1)
