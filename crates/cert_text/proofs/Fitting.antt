-- The bounds of a row are as a certificate may have them.
use Rattle.std.proofs.Common.{◌≡◌, ℕ, zero, suc, ◌+◌, ◌-◌, ◌*◌, ◌/◌, ◌%◌, ◌<◌, ◌≤◌, Bool, true, false, ◌&&◌, ◌==◌, not, List, [], ◌∷◌, ◌++◌, length, map, take, drop, get_or, ℤ, pos, ◌<ℤ◌, ◌≤ℤ◌, inl, inr, refl, sym, ap, ◌∙◌, append_assoc, arith}
use Rattle.std.specs.Prelude.{◌⊎◌, ◌||◌, ◌^◌, if◌then◌else◌, int_lt, nat_lt, nat_le, nat_eq, unsigned_abs}
use Rattle.std.specs.List.{flat_map, range_with_len}
use Rattle.std.proofs.lemmas.Int.{ints}
use Rattle.std.proofs.lemmas.Bool.{cases_eq, cases_lt, eq-eqb, lt-ltb, le-leb}
use Rattle.std.proofs.lemmas.Nat.{div-add-mod', mod_below, le-div, mul-le}
use Rattle.std.proofs.Math.Nat.{div-mul-le_self}
use Rattle.dom_laws.specs.Lattice.{IsElement}
use Rattle.diff_bounds.specs.Matrix.{IsMatrix, IsWord, none}
use Rattle.cert_text.specs.declared.cert.Bound.{Bound}
use Rattle.cert_text.specs.declared.draft.Key.{Key}
use Rattle.cert_text.specs.Allowed.{bound_fits, bounds_fit, is_before, no_key}
use Rattle.diff_bounds.specs.PackRows.{matrices_beside, words_of}
use Rattle.cert_text.specs.MatrixClaims.{sizes_of}
use Rattle.cert_text.specs.Bounds.{bound, bounds_from, is_on_diagonal, word_bounds}
use Rattle.cert_text.specs.BoundLaws.{BoundsFit}

-- ---- the order of places

-- a place of a pack's matrix, places counted row by row
abbrev key_at : ℕ → ℕ → ℕ → Key
key_at pack s k = record { pack = pack; row = k / s; column = k % s }

or_true : (b : Bool) → (b || true) ≡ true
or_true true = refl
or_true false = refl

quotients_rise : (s j k : ℕ) → 0 < s → j ≤ k → j / s ≤ k / s
quotients_rise s j k some low = le-div (j / s) k s some (omega (arith, div-mul-le_self j s, low))

-- an earlier place comes before
earlier : (pack s j k : ℕ) → 0 < s → j < k → is_before (key_at pack s j) (key_at pack s k) ≡ true
earlier pack s j k some less = by_rows (cases_eq (j / s) (k / s))
  where
    by_rows : (j / s ≡ k / s) ⊎ (¬ (j / s ≡ k / s)) → is_before (key_at pack s j) (key_at pack s k) ≡ true
    by_rows (inl same) =
        let column : j % s < k % s = omega (arith, div-add-mod' j s, div-add-mod' k s, ap (λ (q : ℕ). q * s) same, less) in
        rw (eq-eqb pack pack refl)
        (rw (eq-eqb (j / s) (k / s) same) (rw (lt-ltb (j % s) (k % s) column) (rw (or_true (nat_lt (j / s) (k / s))) (or_true (nat_lt pack pack)))))
    by_rows (inr ne) =
        let row : j / s < k / s = omega (arith, quotients_rise s j k some (omega (arith, less)), ne) in
        rw (eq-eqb pack pack refl) (rw (lt-ltb (j / s) (k / s) row) (or_true (nat_lt pack pack)))

-- an earlier pack comes before
of_earlier_pack : (last : Key) (pack s k : ℕ) → last.pack < pack → is_before last (key_at pack s k) ≡ true
of_earlier_pack last pack s k less = rw (lt-ltb last.pack pack less) refl

-- ---- one bound

word_is_small : (x : ℤ) → IsWord x → x <ℤ none → unsigned_abs x ≤ 10 ^ 37
word_is_small x is low = let high = is.high low in omega (arith, ints, high, is.low)

module _ (packs : List (List ℕ)) (pack size : ℕ) where
  bound_is_fine : (last : Key) (k : ℕ) (x : ℤ) → 1 ≤ pack → pack ≤ length packs → length (get_or packs (pack - 1) []) ≡ size → k < words_of size
      → is_on_diagonal size k ≡ false → IsWord x → x <ℤ none → is_before last (key_at pack (size + 1) k) ≡ true → bound_fits packs last (bound pack size k x) ≡ true
  bound_is_fine last k x some within same high off is low before =
      let column : k % (size + 1) ≤ size = omega (arith, mod_below k (size + 1) (omega arith)) in
      let row : k / (size + 1) ≤ size = row_fits in
      rw before
      (rw (le-leb 1 pack some)
      (rw (le-leb pack (length packs) within)
      (rw same (rw (le-leb (k / (size + 1)) size row) (rw (le-leb (k % (size + 1)) size column) (rw off (rw (le-leb (unsigned_abs x) (10 ^ 37) (word_is_small x is low)) refl)))))))
    where
      row_fits : k / (size + 1) ≤ size
      row_fits = elim (cases_lt size (k / (size + 1))) as (λ _. k / (size + 1) ≤ size) [
        | inl more ↦ absurd (let much = mul-le (size + 1) (size + 1) (k / (size + 1)) (size + 1) (omega (arith, more)) (omega arith) in omega (arith, div-mul-le_self k (size + 1), much, high))
        | inr fits ↦ fits
      ]

  -- a word's bound, if it is one, behind the last bound and before others
  one_word : (last : Key) (k : ℕ) (x : ℤ) (xs : List Bound) → 1 ≤ pack → pack ≤ length packs → length (get_or packs (pack - 1) []) ≡ size → k < words_of size
      → IsWord x → is_before last (key_at pack (size + 1) k) ≡ true → bounds_fit packs last xs ≡ true
      → bounds_fit packs (key_at pack (size + 1) k) xs ≡ true → bounds_fit packs last (word_bounds pack size k x ++ xs) ≡ true
  one_word last k x xs some within same high is before passed noted = on (is_on_diagonal size k) refl
    where
      if_low : (t : Bool) → int_lt x none ≡ t → is_on_diagonal size k ≡ false
          → bounds_fit packs last ((if t then bound pack size k x ∷ [] else []) ++ xs) ≡ true
      if_low false e off = passed
      if_low true e off =
          let low : x <ℤ none = grind (arith, ints, e) in
          rw (bound_is_fine last k x some within same high off is low before) noted

      on : (t : Bool) → is_on_diagonal size k ≡ t
          → bounds_fit packs last ((if t then [] else if int_lt x none then bound pack size k x ∷ [] else []) ++ xs) ≡ true
      on true e = passed
      on false e = if_low (int_lt x none) refl e

-- ---- rows

module _ (packs : List (List ℕ)) (pack size : ℕ) (m : List ℤ) (is : IsMatrix size m) (rest : List Bound) where
  words_fit : 1 ≤ pack → pack ≤ length packs → length (get_or packs (pack - 1) []) ≡ size
      → ((last : Key) → last.pack ≤ pack → bounds_fit packs last rest ≡ true) → (a n : ℕ) (last : Key) → a + n ≡ words_of size → last.pack ≤ pack
      → ((k : ℕ) → a ≤ k → is_before last (key_at pack (size + 1) k) ≡ true)
      → bounds_fit packs last (flat_map (λ k. word_bounds pack size k (get_or m k (pos 0))) (range_with_len a n) ++ rest) ≡ true
  words_fit some within same later a zero last e low ahead = later last low
  words_fit some within same later a (suc n) last e low ahead =
      let others = flat_map (λ k. word_bounds pack size k (get_or m k (pos 0))) (range_with_len (a + 1) n) in
      ap (bounds_fit packs last) (append_assoc (word_bounds pack size a (get_or m a (pos 0))) others rest)
      ∙ one_word packs pack size last a (get_or m a (pos 0)) (others ++ rest) some within same (omega (arith, e))
      (is.words a (omega (arith, e, is.width))) (ahead a (omega arith))
      (words_fit some within same later (a + 1) n last (omega (arith, e)) low (λ k h. ahead k (omega (arith, h))))
      (words_fit some within same later (a + 1) n (key_at pack (size + 1) a) (omega (arith, e)) (omega arith)
      (λ k h. earlier pack (size + 1) a k (omega arith) (omega (arith, h))))

rows_fit : (packs : List (List ℕ)) (pack : ℕ) (sizes : List ℕ) (lists : List (List ℤ)) (row : List ℤ) (last : Key) → 1 ≤ pack
    → pack + length sizes ≤ length packs + 1 → ((i : ℕ) → i < length sizes → length (get_or packs (pack + i - 1) []) ≡ get_or sizes i 0)
    → length lists ≡ length sizes → IsElement (matrices_beside sizes lists) row → last.pack < pack → bounds_fit packs last (bounds_from pack sizes row) ≡ true
rows_fit packs pack [] lists row last some within same listed is less = refl
rows_fit packs pack (n ∷ ns) [] row last some within same listed is less = absurd (omega (arith, listed))
rows_fit packs pack (n ∷ ns) (ts ∷ lists) row last some within same listed is less =
    let rest = drop (words_of n) row in
    words_fit packs pack n (take (words_of n) row) is.formed.0.formed (bounds_from (suc pack) ns rest) some (omega (arith, within))
    (ap (λ q. length (get_or packs q [])) (let e : pack - 1 ≡ pack + 0 - 1 = omega arith in e) ∙ same 0 (omega arith))
    (λ l low.
    rows_fit packs (suc pack) ns lists rest l (omega arith) (omega (arith, within))
    (λ i h. ap (λ q. length (get_or packs q [])) (let e : suc pack + i - 1 ≡ pack + suc i - 1 = omega arith in e) ∙ same (suc i) (omega (arith, h)))
    (omega (arith, listed)) is.formed.1 (omega (arith, low)))
    0 (words_of n) last (omega arith) (omega (arith, less)) (λ k h. of_earlier_pack last pack (n + 1) k less)

sizes_are : (packs : List (List ℕ)) (i : ℕ) → length (get_or packs i []) ≡ get_or (sizes_of packs) i 0
sizes_are [] i = refl
sizes_are (p ∷ packs) zero = refl
sizes_are (p ∷ packs) (suc i) = sizes_are packs i

many : (packs : List (List ℕ)) → length (sizes_of packs) ≡ length packs
many [] = refl
many (p ∷ packs) = ap suc (many packs)

pub bounds_are_fit : BoundsFit
bounds_are_fit packs lists row listed is =
    rows_fit packs 1 (sizes_of packs) lists row no_key (omega arith) (omega (arith, many packs))
    (λ i h. ap (λ q. length (get_or packs q [])) (let e : 1 + i - 1 ≡ i = omega arith in e) ∙ sizes_are packs i) (listed ∙ sym (many packs))
    (record { width = is.width; formed = is.formed }) (omega arith)
