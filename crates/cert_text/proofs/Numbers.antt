-- Numbers that are read are spelled so, and what is spelled so is read.
use Rattle.std.proofs.Common.{◌≡◌, ◌≢◌, ℕ, zero, suc, ◌+◌, ◌-◌, ◌*◌, ◌/◌, ◌%◌, ◌^◌, ◌<◌, ◌≤◌, Bool, true, false, not, cond, eqb, leb, List, [], ◌∷◌, ◌++◌, length, Option, Some, None, ℤ, pos, negsuc, refl, sym, ap, subst, ◌∙◌, append_assoc, arith}
use Rattle.std.specs.Prelude.{unsigned_abs}
use Rattle.std.specs.Fmt.{decimal, signed_decimal}
use Rattle.std.specs.List.{AllByRecursion}
use Rattle.std.proofs.lemmas.Bool.{leb-true, eqb-true, and_parts, and_from, le-leb, ne_eqb, not-true}
use Rattle.std.proofs.lemmas.Fmt.{decimal_digit, decimal_step_wide, decimal_by_steps_wide}
use Rattle.std.proofs.lemmas.Option.{same_Some}
use Rattle.cert_text.specs.Reading.{◌▷◌, is_digit, digits_from, number_at, negative, positive, signed_at, after_space, numbers_at}
use Rattle.cert_text.specs.Text.{numbers_text}

pub digit_is : (b : ℕ) → is_digit b ≡ true → (48 ≤ b) × (b ≤ 57)
digit_is b h = let p = and_parts (leb 48 b) (leb b 57) h in (leb-true 48 b p.0, leb-true b 57 p.1)

digit_from : (b : ℕ) → 48 ≤ b → b ≤ 57 → is_digit b ≡ true
digit_from b low high = and_from (leb 48 b) (leb b 57) (le-leb _ _ low) (le-leb _ _ high)

-- ---- digits

decimal_push : (n b : ℕ) → 0 < n → 48 ≤ b → b ≤ 57 → n * 10 + (b - 48) ≤ 10 ^ 37 → decimal (n * 10 + (b - 48)) ≡ decimal n ++ b ∷ []
decimal_push n b positive low high small =
    let quotient : (n * 10 + (b - 48)) / 10 ≡ n = omega arith in
    let last : 48 + (n * 10 + (b - 48)) % 10 ≡ b = omega arith in
    decimal_step_wide (n * 10 + (b - 48)) (omega arith) (omega arith) ∙ rw (quotient, last) refl

-- what is read of the bytes, and that it is small
abbrev pub Takes : (ℕ → List ℕ) → List ℕ → ℕ × List ℕ → Type 0
Takes text bytes x = (bytes ≡ text x.0 ++ x.1) × (x.0 ≤ 10 ^ 37)

pub guard_some : {A : Type 0} (b : Bool) (o : Option A) (y : A) → cond b o None ≡ Some y → (b ≡ true) × (o ≡ Some y)
guard_some true o y e = (refl, e)
guard_some false o y e = absurd cc

digits_take : (bs : List ℕ) (n : ℕ) (x : ℕ × List ℕ) → 0 < n → n ≤ 10 ^ 37 → digits_from n bs ≡ Some x → (decimal n ++ bs ≡ decimal x.0 ++ x.1) × (x.0 ≤ 10 ^ 37)
digits_take [] n x positive small e = subst (λ (y : ℕ × List ℕ). (decimal n ++ [] ≡ decimal y.0 ++ y.1) × (y.0 ≤ 10 ^ 37)) (same_Some (n, []) x e) (refl, small)
digits_take (b ∷ bs) n x positive small e = by_digit (is_digit b) refl e (λ p f h. digits_take bs (n * 10 + (b - 48)) x p f h)
  where
    next : ℕ
    next = n * 10 + (b - 48)

    by_digit : (t : Bool) → t ≡ is_digit b → cond t (cond (leb next (10 ^ 37)) (digits_from next bs) None) (Some (n, b ∷ bs)) ≡ Some x
        → (0 < next → next ≤ 10 ^ 37 → digits_from next bs ≡ Some x → (decimal next ++ bs ≡ decimal x.0 ++ x.1) × (x.0 ≤ 10 ^ 37))
        → (decimal n ++ b ∷ bs ≡ decimal x.0 ++ x.1) × (x.0 ≤ 10 ^ 37)
    by_digit false is h again = subst (λ (y : ℕ × List ℕ). (decimal n ++ b ∷ bs ≡ decimal y.0 ++ y.1) × (y.0 ≤ 10 ^ 37)) (same_Some (n, b ∷ bs) x h) (refl, small)
    by_digit true is h again =
        let d = digit_is b (sym is) in
        let g = guard_some (leb next (10 ^ 37)) (digits_from next bs) x h in
        let fits : next ≤ 10 ^ 37 = leb-true _ _ g.0 in
        let rest = again (omega arith) fits g.1 in
        let regroup : decimal n ++ b ∷ bs ≡ decimal next ++ bs = sym (append_assoc (decimal n) (b ∷ []) bs) ∙ ap (λ (t : List ℕ). t ++ bs) (sym (decimal_push n b positive d.0 d.1 fits)) in
        (regroup ∙ rest.0, rest.1)

pub number_takes : (bs : List ℕ) (x : ℕ × List ℕ) → number_at bs ≡ Some x → Takes decimal bs x
number_takes [] x e = absurd cc
number_takes (b ∷ bs) x e = by_zero (eqb b 48) refl e
  where
    by_zero : (t : Bool) → t ≡ eqb b 48 → cond t (Some (0, bs)) (cond (is_digit b) (digits_from (b - 48) bs) None) ≡ Some x → Takes decimal (b ∷ bs) x
    by_zero true is h =
        let same : b ≡ 48 = eqb-true b 48 (sym is) in
        subst (Takes decimal (b ∷ bs)) (same_Some (0, bs) x h) (rw (decimal_digit 0 (omega arith)) (ap (λ (c : ℕ). c ∷ bs) same), omega arith)
    by_zero false is h =
        let g = guard_some (is_digit b) (digits_from (b - 48) bs) x h in
        let d = digit_is b g.0 in
        let other : b ≢ 48 = λ e. absurd cc in
        let rest = digits_take bs (b - 48) x (omega arith) (omega arith) g.1 in
        let back : 48 + (b - 48) ≡ b = omega arith in
        let one : decimal (b - 48) ++ bs ≡ b ∷ bs = rw (decimal_digit (b - 48) (omega arith), back) refl in
        (sym one ∙ rest.0, rest.1)

-- ---- and back

-- nothing, or a byte that is no digit
abbrev pub ends_number : List ℕ → Bool
ends_number [] = true
ends_number (b ∷ bs) = not (is_digit b)

-- reading on behind the digits of n
abbrev goes_on : ℕ → List ℕ → Option (ℕ × List ℕ)
goes_on n rest = cond (eqb n 0) (Some (0, rest)) (digits_from n rest)

abbrev ReadsOn : ℕ → List ℕ → Type 0
ReadsOn n ds = n ≤ 10 ^ 37 → (rest : List ℕ) → number_at (ds ++ rest) ≡ goes_on n rest

reads_one : (n : ℕ) → n < 10 → ReadsOn n ((48 + n) ∷ [])
reads_one zero lt small rest = refl
reads_one (suc n) lt small rest =
    let other : eqb (48 + suc n) 48 ≡ false = ne_eqb _ _ (λ e. absurd (omega arith)) in
    let digit : is_digit (48 + suc n) ≡ true = digit_from (48 + suc n) (omega arith) (omega arith) in
    let back : 48 + suc n - 48 ≡ suc n = omega arith in
    let some : eqb (suc n) 0 ≡ false = ne_eqb _ _ (λ e. absurd (omega arith)) in
    rw (other, digit, back, some) refl

reads_more : (n : ℕ) (ds : List ℕ) → 10 ≤ n → ReadsOn (n / 10) ds → ReadsOn n (ds ++ ((48 + n % 10) ∷ []))
reads_more n ds high so_far small rest =
    let front = so_far (omega arith) ((48 + n % 10) ∷ rest) in
    let left : eqb (n / 10) 0 ≡ false = ne_eqb _ _ (λ e. absurd (omega arith)) in
    let other : eqb n 0 ≡ false = ne_eqb _ _ (λ e. absurd (omega arith)) in
    let digit : is_digit (48 + n % 10) ≡ true = digit_from (48 + n % 10) (omega arith) (omega arith) in
    let whole : n / 10 * 10 + (48 + n % 10 - 48) ≡ n = omega arith in
    let fits : leb n (10 ^ 37) ≡ true = le-leb _ _ small in
    let step : goes_on (n / 10) ((48 + n % 10) ∷ rest) ≡ goes_on n rest = rw (left, digit, whole, fits, other) refl in
    ap number_at (append_assoc ds ((48 + n % 10) ∷ []) rest) ∙ front ∙ step

number_reads_on : (n : ℕ) → n ≤ 10 ^ 37 → ReadsOn n (decimal n)
number_reads_on n small = decimal_by_steps_wide ReadsOn reads_one reads_more n (omega arith)

digits_stop : (n : ℕ) (rest : List ℕ) → ends_number rest ≡ true → digits_from n rest ≡ Some (n, rest)
digits_stop n [] h = refl
digits_stop n (b ∷ bs) h = let f : is_digit b ≡ false = not-true _ h in rw f refl

pub number_again : (n : ℕ) (rest : List ℕ) → n ≤ 10 ^ 37 → ends_number rest ≡ true → number_at (decimal n ++ rest) ≡ Some (n, rest)
number_again n rest small h = number_reads_on n small small rest ∙ by_zero n
  where
    by_zero : (m : ℕ) → goes_on m rest ≡ Some (m, rest)
    by_zero zero = refl
    by_zero (suc m) = let some : eqb (suc m) 0 ≡ false = ne_eqb _ _ (λ e. absurd (omega arith)) in rw some (digits_stop (suc m) rest h)

-- ---- signs

negative_suc : (n : ℕ) (rest : List ℕ) → negative (suc n, rest) ≡ Some (negsuc n, rest)
negative_suc n rest =
    let some : eqb (suc n) 0 ≡ false = ne_eqb _ _ (λ e. absurd (omega arith)) in
    let back : suc n - 1 ≡ n = omega arith in
    rw (some, back) refl

pub signed_takes : (bs : List ℕ) (x : ℤ × List ℕ) → signed_at bs ≡ Some x → (bs ≡ signed_decimal x.0 ++ x.1) × (unsigned_abs x.0 ≤ 10 ^ 37)
signed_takes [] x e = absurd cc
signed_takes (b ∷ bs) x e = by_minus (eqb b 45) refl e
  where
    minus : b ≡ 45 → (r : Option (ℕ × List ℕ)) → number_at bs ≡ r → (r ▷ negative) ≡ Some x → (b ∷ bs ≡ signed_decimal x.0 ++ x.1) × (unsigned_abs x.0 ≤ 10 ^ 37)
    minus is None r h = absurd cc
    minus is (Some (zero, rest)) r h = absurd cc
    minus is (Some (suc n, rest)) r h =
        let t = number_takes bs (suc n, rest) r in
        subst (λ (y : ℤ × List ℕ). (b ∷ bs ≡ signed_decimal y.0 ++ y.1) × (unsigned_abs y.0 ≤ 10 ^ 37)) (same_Some (negsuc n, rest) x (sym (negative_suc n rest) ∙ h)) (rw (is, t.0) refl, t.1)

    plain : (r : Option (ℕ × List ℕ)) → number_at (b ∷ bs) ≡ r → (r ▷ positive) ≡ Some x → (b ∷ bs ≡ signed_decimal x.0 ++ x.1) × (unsigned_abs x.0 ≤ 10 ^ 37)
    plain None r h = absurd cc
    plain (Some y) r h =
        let t = number_takes (b ∷ bs) y r in
        subst (λ (y : ℤ × List ℕ). (b ∷ bs ≡ signed_decimal y.0 ++ y.1) × (unsigned_abs y.0 ≤ 10 ^ 37)) (same_Some (pos y.0, y.1) x h) t

    by_minus : (t : Bool) → t ≡ eqb b 45 → cond t (number_at bs ▷ negative) (number_at (b ∷ bs) ▷ positive) ≡ Some x → (b ∷ bs ≡ signed_decimal x.0 ++ x.1) × (unsigned_abs x.0 ≤ 10 ^ 37)
    by_minus true is h = minus (eqb-true b 45 (sym is)) (number_at bs) refl h
    by_minus false is h = plain (number_at (b ∷ bs)) refl h

signed_from : (bs : List ℕ) (x : ℕ × List ℕ) → number_at bs ≡ Some x → signed_at bs ≡ Some (pos x.0, x.1)
signed_from [] x e = absurd cc
signed_from (b ∷ bs) x e = by_minus (eqb b 45) refl
  where
    by_minus : (t : Bool) → t ≡ eqb b 45 → cond t (number_at bs ▷ negative) (number_at (b ∷ bs) ▷ positive) ≡ Some (pos x.0, x.1)
    by_minus true is = let no : number_at (b ∷ bs) ≡ None = ap (λ (c : ℕ). number_at (c ∷ bs)) (eqb-true b 45 (sym is)) in absurd cc
    by_minus false is = ap (λ r. r ▷ positive) e

pub signed_again : (z : ℤ) (rest : List ℕ) → unsigned_abs z ≤ 10 ^ 37 → ends_number rest ≡ true → signed_at (signed_decimal z ++ rest) ≡ Some (z, rest)
signed_again (pos n) rest small h = signed_from (decimal n ++ rest) (n, rest) (number_again n rest small h)
signed_again (negsuc n) rest small h = ap (λ r. r ▷ negative) (number_again (suc n) rest small h) ∙ negative_suc n rest

-- ---- all the numbers of a line

abbrev pub IsSmall : ℤ → Type 0
IsSmall z = unsigned_abs z ≤ 10 ^ 37

pub space_takes : (bs : List ℕ) (x : ℤ × List ℕ) → after_space bs ≡ Some x → (bs ≡ 32 ∷ (signed_decimal x.0 ++ x.1)) × IsSmall x.0
space_takes [] x e = absurd cc
space_takes (b ∷ bs) x e =
    let g = guard_some (eqb b 32) (signed_at bs) x e in
    let t = signed_takes bs x g.1 in
    (rw (eqb-true b 32 g.0, t.0) refl, t.1)

pub numbers_take : (k : ℕ) (bs : List ℕ) (zs : List ℤ) → numbers_at k bs ≡ Some zs → (bs ≡ numbers_text zs) × AllByRecursion IsSmall zs
numbers_take k [] zs e = subst (λ (ys : List ℤ). ([] ≡ numbers_text ys) × AllByRecursion IsSmall ys) (same_Some [] zs e) (refl, tt)
numbers_take zero (b ∷ bs) zs e = absurd cc
numbers_take (suc k) (b ∷ bs) zs e = first (after_space (b ∷ bs)) refl e (λ rest ys h. numbers_take k rest ys h)
  where
    second : (x : ℤ × List ℕ) → after_space (b ∷ bs) ≡ Some x → (r : Option (List ℤ)) → numbers_at k x.1 ≡ r → (r ▷ (λ ys. Some (x.0 ∷ ys))) ≡ Some zs → ((rest : List ℕ) (ys : List ℤ) → numbers_at k rest ≡ Some ys → (rest ≡ numbers_text ys) × AllByRecursion IsSmall ys)
        → (b ∷ bs ≡ numbers_text zs) × AllByRecursion IsSmall zs
    second x is None r h again = absurd cc
    second x is (Some ys) r h again =
        let t = space_takes (b ∷ bs) x is in
        let u = again x.1 ys r in
        subst (λ (ws : List ℤ). (b ∷ bs ≡ numbers_text ws) × AllByRecursion IsSmall ws) (same_Some (x.0 ∷ ys) zs h) (t.0 ∙ ap (λ (w : List ℕ). 32 ∷ (signed_decimal x.0 ++ w)) u.0, (t.1, u.1))

    first : (r : Option (ℤ × List ℕ)) → after_space (b ∷ bs) ≡ r → (r ▷ (λ x. numbers_at k x.1 ▷ (λ ys. Some (x.0 ∷ ys)))) ≡ Some zs → ((rest : List ℕ) (ys : List ℤ) → numbers_at k rest ≡ Some ys → (rest ≡ numbers_text ys) × AllByRecursion IsSmall ys)
        → (b ∷ bs ≡ numbers_text zs) × AllByRecursion IsSmall zs
    first None is h again = absurd cc
    first (Some x) is h again = second x is (numbers_at k x.1) refl h again

numbers_end_number : (zs : List ℤ) → ends_number (numbers_text zs) ≡ true
numbers_end_number [] = refl
numbers_end_number (z ∷ zs) = refl

pub numbers_again : (k : ℕ) (zs : List ℤ) → length zs ≤ k → AllByRecursion IsSmall zs → numbers_at k (numbers_text zs) ≡ Some zs
numbers_again k [] long small = refl
numbers_again zero (z ∷ zs) long small = absurd (omega arith)
numbers_again (suc k) (z ∷ zs) long small =
    rw (signed_again z (numbers_text zs) small.0 (numbers_end_number zs), numbers_again k zs (omega arith) small.1) refl
