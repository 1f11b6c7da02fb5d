-- What is found is a certificate that the format allows.
use Rattle.std.proofs.Common.{◌≡◌, ℕ, zero, suc, ◌+◌, ◌^◌, ◌<◌, ◌≤◌, ◌&&◌, nat_lt, nat_le, List, [], ◌∷◌, length, map, Bool, true, false, Some, None, ℤ, ◌≤ℤ◌, int_le, refl, ap, ◌∙◌, arith}
use Rattle.std.specs.Prelude.{unsigned_abs}
use Rattle.std.specs.List.{AllByRecursion, range_with_len}
use Rattle.std.proofs.lemmas.Bool.Decides.{nat_tests}
use Rattle.std.proofs.lemmas.Int.{ints}
use Rattle.interval_domain.specs.declared.bounds.Interval.{Interval}
use Rattle.interval_domain.specs.Known.{Known}
use Rattle.interval_domain.specs.Elements.{Element, CellsFit, ElementFits}
use Rattle.interval_domain.proofs.AllCells.{fits_length}
use Rattle.cert_text.specs.Allowed.{bounds_fit, claim_fits, claims_fit, no_key, place_fits, places_all_fit}
use Rattle.cert_text.specs.Gaps.{IsSmall}
use Rattle.cert_text.specs.Bounds.{row_bounds}
use Rattle.analyse_core.specs.Certificates.{claim, claims_from, place_for}

module _ (cells : ℕ) where
  one_fits : (own i : Interval) (last cell : ℕ) → IsSmall own → own.low ≤ℤ i.low → i.low ≤ℤ i.high → i.high ≤ℤ own.high → last < cell →
      cell ≤ cells → claim_fits cells last (claim cell i) ≡ true
  one_fits own i last cell small l o h after within =
      let a = small.low in
      let b = small.high in
      let x : nat_lt last cell ≡ true = grind (arith, nat_tests, after) in
      let y : nat_le cell cells ≡ true = grind (arith, nat_tests, within) in
      let z : int_le i.low i.high ≡ true = grind (arith, ints, o) in
      let lows : unsigned_abs i.low < 10 ^ 18 = omega (arith, ints, a, b, l, o, h) in
      let highs : unsigned_abs i.high < 10 ^ 18 = omega (arith, ints, a, b, l, o, h) in
      let u : nat_lt (unsigned_abs i.low) (10 ^ 18) ≡ true = grind (arith, nat_tests, lows) in
      let v : nat_lt (unsigned_abs i.high) (10 ^ 18) ≡ true = grind (arith, nat_tests, highs) in
      joined (nat_lt last cell) (nat_le cell cells) (int_le i.low i.high) _ _ x y z u v
    where
      joined : (a b c d e : Bool) → a ≡ true → b ≡ true → c ≡ true → d ≡ true → e ≡ true → ((a && b) && (c && (d && e))) ≡ true
      joined true true true true true p q r s t = refl
      joined false b c d e p q r s t = absurd (cc p)
      joined true false c d e p q r s t = absurd (cc q)
      joined true true false d e p q r s t = absurd (cc r)
      joined true true true false e p q r s t = absurd (cc s)
      joined true true true true false p q r s t = absurd (cc t)

  all_fit : (ranges : List Interval) (cs : List Known) (last cell : ℕ) → AllByRecursion IsSmall ranges → CellsFit ranges cs → last < cell →
      cell + length cs ≤ suc cells → claims_fit cells last (claims_from cell cs) ≡ true
  all_fit [] [] last cell small fits after within = refl
  all_fit [] (c ∷ cs) last cell small fits after within = absurd fits
  all_fit (own ∷ ranges) [] last cell small fits after within = absurd fits
  all_fit (own ∷ ranges) (None ∷ cs) last cell (small, more) (fits, rest) after within =
      all_fit ranges cs last (suc cell) more rest (omega (arith, after)) (omega (arith, within))
  all_fit (own ∷ ranges) (Some i ∷ cs) last cell (small, more) ((l, o, h), rest) after within =
      ap (λ b. b && claims_fit cells cell (claims_from (suc cell) cs)) (one_fits own i last cell small l o h after (omega (arith, within)))
      ∙ all_fit ranges cs cell (suc cell) more rest (omega arith) (omega (arith, within))

  module _ (packs : List (List ℕ)) (sizes : List ℕ) (ranges : List Interval) (small : AllByRecursion IsSmall ranges)
      (count_is : length ranges ≡ cells) where
    place_allowed : (x : Element) (row : List ℤ) → ElementFits ranges x → bounds_fit packs no_key (row_bounds sizes row) ≡ true →
        place_fits cells packs (place_for sizes x row) ≡ true
    place_allowed None row fits bounds = refl
    place_allowed (Some cs) row fits bounds =
        let same = fits_length ranges cs fits in
        ap (λ b. b && bounds_fit packs no_key (row_bounds sizes row))
        (all_fit ranges cs 0 1 small fits (omega arith) (omega (arith, same, count_is)))
        ∙ bounds

    pub places_allowed : (x : ℕ → Element) (bounds : ℕ → List ℤ) (first count : ℕ) →
        ((node : ℕ) → first ≤ node → node < first + count → ElementFits ranges (x node)) →
        ((node : ℕ) → first ≤ node → node < first + count → bounds_fit packs no_key (row_bounds sizes (bounds node)) ≡ true) →
        places_all_fit cells packs (map (λ node. place_for sizes (x node) (bounds node)) (range_with_len first count)) ≡ true
    places_allowed x bounds first zero fits fit = refl
    places_allowed x bounds first (suc count) fits fit =
        ap (λ b. b && places_all_fit cells packs (map (λ node. place_for sizes (x node) (bounds node)) (range_with_len (first + 1) count)))
        (place_allowed (x first) (bounds first) (fits first (omega arith) (omega arith)) (fit first (omega arith) (omega arith)))
        ∙ places_allowed x bounds (first + 1) count (λ node l h. fits node (omega (arith, l)) (omega (arith, h)))
        (λ node l h. fit node (omega (arith, l)) (omega (arith, h)))
