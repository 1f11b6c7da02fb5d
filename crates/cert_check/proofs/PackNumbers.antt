-- The packs of a certificate that its format allows are packs of a program's cells.
use Rattle.std.proofs.Common.{◌≡◌, ◌≢◌, ◌<◌, ◌≤◌, ◌==◌, ℕ, zero, suc, ◌+◌, List, [], ◌∷◌, ◌++◌, map, length, true, false, ◌&&◌, ℤ, refl, sym, ap, subst, ◌∙◌, arith}
use Rattle.std.specs.Prelude.{Vec, nat_lt, nat_le, slice_index_or}
use Rattle.std.specs.List.{AllByRecursion}
use Rattle.std.specs.declared.alloc.Global.{Global}
use Rattle.std.proofs.lemmas.Bool.{and_parts, eqb-true, eqb-false, leb-true, ltb-true}
use Rattle.cob_program.specs.Act.{Program}
use Rattle.cob_graph.specs.Homes.{homes_of}
use Rattle.diff_bounds.specs.declared.Pack as declared
use Rattle.diff_bounds.specs.Widening.{AreThresholds}
use Rattle.diff_bounds.specs.PackRows.{lists_of}
use Rattle.diff_steps.specs.Packs.{Pack, size_of}
use Rattle.pack_laws.specs.Agreeing.{ArePacksOf}
use Rattle.cert_text.specs.declared.cert.Element as text
use Rattle.cert_text.specs.View.{Place, NotReached, Holds, place_of}
use Rattle.cert_text.specs.Allowed.{bounds_fit, cells_rise, claims_fit, no_key, pack_fits, packs_fit, place_fits, places_all_fit}
use Rattle.cert_text.specs.MatrixClaims.{HasFittingBounds, cells_in}
use Rattle.pack_laws.specs.Packs.{pack_in, packs_in, AreRisingNumbers, ArePacksOfCells}
use Rattle.pack_laws.proofs.Packed.{HasDistinctHomes, HasPlainItems, is_pack, few_cells}
use Rattle.cert_check.specs.Given.{AreEmptyLists}

-- ---- rising numbers

abbrev at : List ℕ → ℕ → ℕ
at cs k = slice_index_or cs k 0

module _ (cells : ℕ) where
  above : (last : ℕ) (cs : List ℕ) (k : ℕ) → cells_rise cells last cs ≡ true → k < length cs → last < at cs k
  above last [] k e h = absurd (omega (arith, h))
  above last (c ∷ cs) zero e h =
      let here = (and_parts (nat_lt last c && nat_le c cells) (cells_rise cells c cs) e).0 in
      ltb-true last c (and_parts (nat_lt last c) (nat_le c cells) here).0
  above last (c ∷ cs) (suc k) e h =
      let both = and_parts (nat_lt last c && nat_le c cells) (cells_rise cells c cs) e in
      let low = ltb-true last c (and_parts (nat_lt last c) (nat_le c cells) both.0).0 in
      let more = above c cs k both.1 (omega (arith, h)) in
      omega (arith, low, more)

  within : (last : ℕ) (cs : List ℕ) (k : ℕ) → cells_rise cells last cs ≡ true → k < length cs → at cs k ≤ cells
  within last [] k e h = absurd (omega (arith, h))
  within last (c ∷ cs) zero e h =
      let here = (and_parts (nat_lt last c && nat_le c cells) (cells_rise cells c cs) e).0 in
      leb-true c cells (and_parts (nat_lt last c) (nat_le c cells) here).1
  within last (c ∷ cs) (suc k) e h =
      within c cs k (and_parts (nat_lt last c && nat_le c cells) (cells_rise cells c cs) e).1 (omega (arith, h))

  rising : (last : ℕ) (cs : List ℕ) (j k : ℕ) → cells_rise cells last cs ≡ true → j < k → k < length cs → at cs j < at cs k
  rising last [] j k e l h = absurd (omega (arith, h))
  rising last (c ∷ cs) j zero e l h = absurd (omega (arith, l))
  rising last (c ∷ cs) zero (suc k) e l h =
      above c cs k (and_parts (nat_lt last c && nat_le c cells) (cells_rise cells c cs) e).1 (omega (arith, h))
  rising last (c ∷ cs) (suc j) (suc k) e l h =
      rising c cs j k (and_parts (nat_lt last c && nat_le c cells) (cells_rise cells c cs) e).1 (omega (arith, l)) (omega (arith, h))

  are_rising : (cs : List ℕ) → pack_fits cells cs ≡ true → AreRisingNumbers cells cs
  are_rising cs e =
      let both = and_parts (nat_le 2 (length cs) && nat_le (length cs) 8) (cells_rise cells 0 cs) e in
      record {
        few = leb-true (length cs) 8 (and_parts (nat_le 2 (length cs)) (nat_le (length cs) 8) both.0).1;
        first = λ k h. above 0 cs k both.1 h;
        last = λ k h. within 0 cs k both.1 h;
        rising = λ j k l h. rising 0 cs j k both.1 l h;
      }

  pub packs_rise : (packs : List declared.Pack) → packs_fit cells (cells_in packs) ≡ true → ArePacksOfCells cells packs
  packs_rise [] e = tt
  packs_rise (pack ∷ packs) e =
      let both = and_parts (pack_fits cells pack.cells.items) (packs_fit cells (cells_in packs)) e in
      (are_rising pack.cells.items both.0, packs_rise packs both.1)

-- ---- packs of homes

module _ (p : Program) (cells : ℕ) (many : cells ≡ length (homes_of p)) (distinct : HasDistinctHomes p)
    (plain : HasPlainItems p.layout) where
  pub packs_are_of : (packs : List (List ℕ)) → packs_fit cells packs ≡ true → ArePacksOf p (map (pack_in (homes_of p)) packs)
  packs_are_of [] e = tt
  packs_are_of (ns ∷ packs) e =
      let both = and_parts (pack_fits cells ns) (packs_fit cells packs) e in
      (is_pack p cells many distinct plain ns (are_rising cells ns both.0), packs_are_of packs both.1)

  pub packs_are_few : (packs : List (List ℕ)) → packs_fit cells packs ≡ true →
      AllByRecursion (λ pack. size_of pack ≤ 8) (map (pack_in (homes_of p)) packs)
  packs_are_few [] e = tt
  packs_are_few (ns ∷ packs) e =
      let both = and_parts (pack_fits cells ns) (packs_fit cells packs) e in
      (few_cells p cells many distinct plain ns (are_rising cells ns both.0), packs_are_few packs both.1)

-- ---- packs as the code has them

pub packs_in_are : (p : Program) (packs : List declared.Pack) → packs_in (homes_of p) packs ≡ map (pack_in (homes_of p)) (cells_in packs)
packs_in_are p [] = refl
packs_in_are p (pack ∷ packs) = ap (λ (rest : List Pack). pack_in (homes_of p) pack.cells.items ∷ rest) (packs_in_are p packs)

-- ---- whether there are packs

pub no_packs : (packs items : List declared.Pack) → packs ≡ items → (length packs == 0) ≡ true → cells_in items ≡ []
no_packs [] items same e = ap cells_in (sym same)
no_packs (pack ∷ packs) items same e = absurd (let none = eqb-true (length (pack ∷ packs)) 0 e in omega (arith, none))

pub some_packs : (packs items : List declared.Pack) → packs ≡ items → (length packs == 0) ≡ false → cells_in items ≢ []
some_packs [] items same e = absurd (eqb-false 0 0 e refl)
some_packs (pack ∷ packs) items same e = λ none. absurd (let apart = ap cells_in same ∙ none in cc apart)

-- ---- no thresholds

none_are_thresholds : AreThresholds []
none_are_thresholds = record { low = λ k h. absurd (omega (arith, h)); high = λ k h. absurd (omega (arith, h)) }

pub empty_are_thresholds : (lists : List (Vec ℤ Global)) → AllByRecursion (λ list. list.items ≡ []) lists → AllByRecursion AreThresholds (lists_of lists)
empty_are_thresholds [] are = tt
empty_are_thresholds (list ∷ lists) are = (subst AreThresholds (sym are.0) none_are_thresholds, empty_are_thresholds lists are.1)

pub empty_are_short : (lists : List (Vec ℤ Global)) → AllByRecursion (λ list. list.items ≡ []) lists → AllByRecursion (λ list. length list.items ≤ 2048) lists
empty_are_short [] are = tt
empty_are_short (list ∷ lists) are = (let none = ap length are.0 in omega (arith, none), empty_are_short lists are.1)

-- one list more
pub one_list_more : (count : ℕ) (lists : List (Vec ℤ Global)) (list : Vec ℤ Global) → AreEmptyLists count lists → list.items ≡ [] →
    AreEmptyLists (count + 1) (lists ++ list ∷ [])
one_list_more count lists list are none = record {
  many = more lists ∙ ap (λ n. n + 1) are.many;
  empty = with_one lists are.empty;
}
  where
    more : (xs : List (Vec ℤ Global)) → length (xs ++ list ∷ []) ≡ length xs + 1
    more [] = refl
    more (x ∷ xs) = let rest = more xs in omega (arith, rest)

    with_one : (xs : List (Vec ℤ Global)) → AllByRecursion (λ y. y.items ≡ []) xs → AllByRecursion (λ y. y.items ≡ []) (xs ++ list ∷ [])
    with_one [] all = (none, tt)
    with_one (x ∷ xs) all = (all.0, with_one xs all.1)

-- ---- bounds of nodes

module _ (cells : ℕ) (packs : List (List ℕ)) where
  bounds_of : (place : Place) → place_fits cells packs place ≡ true → HasFittingBounds packs place
  bounds_of NotReached e = tt
  bounds_of (Holds claims bounds) e = (and_parts (claims_fit cells 0 claims) (bounds_fit packs no_key bounds) e).1

  pub bounds_all : (places : List text.Element) → places_all_fit cells packs (map place_of places) ≡ true →
      AllByRecursion (λ place. HasFittingBounds packs (place_of place)) places
  bounds_all [] e = tt
  bounds_all (x ∷ places) e =
      let both = and_parts (place_fits cells packs (place_of x)) (places_all_fit cells packs (map place_of places)) e in
      (bounds_of (place_of x) both.0, bounds_all places both.1)
