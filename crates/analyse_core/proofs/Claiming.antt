-- The claims of known cells say these cells.
use Rattle.std.proofs.Common.{◌≡◌, ℕ, zero, suc, ◌+◌, ◌-◌, ◌<◌, ◌≤◌, ◌==◌, List, [], ◌∷◌, ◌++◌, length, map, drop, get_or, true, false, Some, None, ℤ, ◌≤ℤ◌, int_le, if◌then◌else◌, refl, sym, ap, ◌∙◌, arith}
use Rattle.std.proofs.lemmas.Bool.{eq-eqb}
use Rattle.std.proofs.lemmas.List.{append-nil, map-append, drop_all}
use Rattle.std.proofs.lemmas.List.FromFn.{get_or-map-range_with_len, map-range_with_len_more}
use Rattle.std.proofs.lemmas.Bool.Decides.{nat_tests}
use Rattle.std.proofs.lemmas.Int.{ints, clamps}
use Rattle.interval_domain.specs.declared.bounds.Interval.{Interval}
use Rattle.interval_domain.specs.Corners.{interval}
use Rattle.interval_domain.specs.Known.{Known, KnownFits}
use Rattle.interval_domain.specs.Elements.{Element, CellsFit, ElementFits}
use Rattle.interval_domain.specs.Rows.{IsRow, known_at, element_of, row_from, width_of}
use Rattle.interval_domain.proofs.AllCells.{fits_length}
use Rattle.cert_text.specs.declared.cert.Claim.{Claim}
use Rattle.cert_text.specs.View.{Place, NotReached}
use Rattle.cert_text.specs.Claims.{claim_at, claims_behind, written_from, written_element, met, met_known, if_ordered, with_cell, met_cells, met_element, claimed_element, claimed_row}
use Rattle.analyse_core.specs.Certificates.{claim, known_claims, claims_from, place_for, places_for}

-- ---- claims as they are made

drop_one : (cs : List Known) (k : ℕ) → k < length cs → drop k cs ≡ known_at cs k ∷ drop (suc k) cs
drop_one [] k l = absurd (omega (arith, l))
drop_one (c ∷ cs) zero l = refl
drop_one (c ∷ cs) (suc k) l = drop_one cs k (omega (arith, l))

-- the claims of cells from a place on are those of one cell and those behind it
pub claims_cut : (cs : List Known) (k j : ℕ) (known : Known) → j ≡ suc k → k < length cs → known ≡ known_at cs k →
    claims_from (suc k) (drop k cs) ≡ known_claims j known ++ claims_from (suc j) (drop j cs)
claims_cut cs k j known e l is =
    ap (claims_from (suc k)) (drop_one cs k l)
    ∙ ap (λ c. known_claims (suc k) c ++ claims_from (suc (suc k)) (drop (suc k) cs)) (sym is)
    ∙ ap (λ i. known_claims i known ++ claims_from (suc i) (drop i cs)) (sym e)

pub all_claimed : (cs : List Known) (k : ℕ) (claims : List Claim) → length cs ≤ k →
    claims ++ claims_from (suc k) (drop k cs) ≡ claims_from 1 cs → claims ≡ claims_from 1 cs
all_claimed cs k claims l e =
    sym (append-nil claims) ∙ ap (λ xs. claims ++ claims_from (suc k) xs) (sym (drop_all k cs l)) ∙ e

-- ---- claims as they are read

other_cell : (k j : ℕ) → j < k → (k == j) ≡ false
other_cell k j l = grind (arith, nat_tests)

-- claims of cells behind one say nothing of it
none_of : (cs : List Known) (k j : ℕ) → j < k → (claim_at (claims_from k cs) j ≡ None) × (claims_behind (claims_from k cs) j ≡ claims_from k cs)
none_of [] k j l = (refl, refl)
none_of (None ∷ cs) k j l = none_of cs (suc k) j (omega (arith, l))
none_of (Some i ∷ cs) k j l =
    let e = other_cell k j l in (
      ap (λ b. if b then Some (interval i.low i.high) else None) e,
      ap (λ b. if b then claims_from (suc k) cs else claim k i ∷ claims_from (suc k) cs) e,
    )

written_back : (cs : List Known) (k : ℕ) → written_from k (length cs) (claims_from k cs) ≡ cs
written_back [] k = refl
written_back (None ∷ cs) k =
    let rest = none_of cs (suc k) k (omega arith) in
    ap (λ c. c ∷ written_from (suc k) (length cs) (claims_behind (claims_from (suc k) cs) k)) rest.0
    ∙ ap (λ claims. None ∷ written_from (suc k) (length cs) claims) rest.1
    ∙ ap (λ ds. None ∷ ds) (written_back cs (suc k))
written_back (Some i ∷ cs) k =
    let e = eq-eqb k k refl in
    ap (λ b. (if b then Some (interval i.low i.high) else None) ∷ written_from (suc k) (length cs) (if b then claims_from (suc k) cs else claim k i ∷ claims_from (suc k) cs)) e
    ∙ ap (λ ds. Some i ∷ ds) (written_back cs (suc k))

-- what lies in its own range is met whole
pub met_whole : (own i : Interval) → own.low ≤ℤ i.low → i.high ≤ℤ own.high → met own i ≡ i
met_whole own i l h =
    ap (λ low. interval low (met own i).high) (omega (arith, ints, clamps, l))
    ∙ ap (λ high. interval i.low high) (omega (arith, ints, clamps, h))

ordered_is : (i : Interval) → i.low ≤ℤ i.high → if_ordered i ≡ Some (Some i)
ordered_is i h =
    let e : int_le i.low i.high ≡ true = grind (arith, ints, h) in
    ap (λ b. if b then Some (Some i) else None) e

met_back : (own : Interval) (c : Known) → KnownFits own c → met_known own c ≡ Some c
met_back own None h = refl
met_back own (Some i) (l, o, h) = ap if_ordered (met_whole own i l h) ∙ ordered_is i o

met_cells_back : (owns : List Interval) (cs : List Known) → CellsFit owns cs → met_cells owns cs ≡ Some cs
met_cells_back [] [] h = refl
met_cells_back [] (c ∷ cs) h = absurd h
met_cells_back (own ∷ owns) [] h = absurd h
met_cells_back (own ∷ owns) (c ∷ cs) (h, hs) =
    ap (λ o. with_cell o (met_cells owns cs)) (met_back own c h) ∙ ap (with_cell (Some c)) (met_cells_back owns cs hs)

-- a row of matrices for packs of these sizes beside it says nothing of cells
module _ (sizes : List ℕ) where
  written_place : (owns : List Interval) (x : Element) (bounds : List ℤ) → ElementFits owns x →
      written_element (length owns) (place_for sizes x bounds) ≡ x
  written_place owns None bounds h = refl
  written_place owns (Some cs) bounds h =
      ap (λ n. Some (written_from 1 n (claims_from 1 cs))) (sym (fits_length owns cs h)) ∙ ap Some (written_back cs 1)

  met_place : (owns : List Interval) (x : Element) → ElementFits owns x → met_element owns x ≡ x
  met_place owns None h = refl
  met_place owns (Some cs) h = met_cells_back owns cs h

  pub claimed_is : (owns : List Interval) (x : Element) (bounds : List ℤ) → ElementFits owns x → claimed_element owns (place_for sizes x bounds) ≡ x
  claimed_is owns x bounds h = ap (met_element owns) (written_place owns x bounds h) ∙ met_place owns x h

  -- a row's claims mean this row
  pub claimed_row_is : (owns : List Interval) (row bounds : List ℤ) → IsRow owns row → claimed_row owns (place_for sizes (element_of row) bounds) ≡ row
  claimed_row_is owns row bounds is =
      ap (row_from (width_of owns)) (claimed_is owns (element_of row) bounds is.fits) ∙ sym is.said

  -- ---- nodes

  pub place_is : (nodes : ℕ) (x : ℕ → Element) (bounds : ℕ → List ℤ) (node : ℕ) → 1 ≤ node → node ≤ nodes →
      get_or (places_for sizes nodes x bounds) (node - 1) NotReached ≡ place_for sizes (x node) (bounds node)
  place_is nodes x bounds node l h =
      get_or-map-range_with_len (λ n. place_for sizes (x n) (bounds n)) 1 nodes (node - 1) node NotReached (omega (arith, l, h)) (omega (arith, l))

  -- what one node more claims
  pub places_more : {E : Type 0} (f : E → Place) (old new : List E) (e : E) (nodes : ℕ) (x : ℕ → Element) (bounds : ℕ → List ℤ) →
      new ≡ old ++ e ∷ [] → f e ≡ place_for sizes (x (nodes + 1)) (bounds (nodes + 1)) → map f old ≡ places_for sizes nodes x bounds →
      map f new ≡ places_for sizes (nodes + 1) x bounds
  places_more f old new e nodes x bounds grown here rest =
      let place : ℕ → Place = λ n. place_for sizes (x n) (bounds n) in
      ap (map f) grown ∙ map-append f old (e ∷ [])
      ∙ ap (λ p. map f old ++ p ∷ []) here ∙ ap (λ ps. ps ++ place (nodes + 1) ∷ []) rest
      ∙ sym (map-range_with_len_more place 1 nodes (nodes + 1) (omega arith))
