-- Bounds shared out among packs: those of the first pack, and those behind them.
use Rattle.std.proofs.Common.{◌≡◌, ◌≢◌, ℕ, zero, suc, ◌+◌, ◌-◌, ◌/◌, ◌%◌, ◌<◌, ◌≤◌, Bool, true, false, ◌&&◌, eqb, leb, ltb, not, List, [], ◌∷◌, length, take, drop, get_or, slice_get, Some, ℤ, pos, inl, inr, refl, ap, subst, arith}
use Rattle.std.specs.Prelude.{◌⊎◌, ◌||◌, if◌then◌else◌, nat_eq, unsigned_abs, ◌^◌}
use Rattle.std.specs.List.{AllByRecursion}
use Rattle.std.proofs.lemmas.Bool.{and_parts, or_cases, eqb-true, leb-true, ltb-true}
use Rattle.diff_bounds.specs.Matrix.{none}
use Rattle.diff_bounds.specs.Lattice.{matrix_of}
use Rattle.cert_text.specs.declared.cert.Bound.{Bound}
use Rattle.cert_text.specs.declared.draft.Key.{Key}
use Rattle.cert_text.specs.Allowed.{bound_fits, bounds_fit, is_before, key_of, no_key, places_fit}
use Rattle.cert_text.specs.MatrixClaims.{bound_at, claimed_matrix, is_of, matrices_from, sizes_of}
use Rattle.cert_text.specs.Written.{AreFrom, HasPlaces, IsBoundOf, PacksRise}
use Rattle.cert_text.proofs.MatrixFilling.{of_tells}

-- ---- what is sought of another pack

not_of : (b : Bound) (pack row column : ℕ) → b.pack ≢ pack → is_of b pack row column ≡ false
not_of b pack row column ne = go (is_of b pack row column) refl
  where
    go : (t : Bool) → is_of b pack row column ≡ t → is_of b pack row column ≡ false
    go true e = absurd (ne (of_tells b pack row column e).0)
    go false e = e

none_there : (bounds : List Bound) (pack row column : ℕ) → AllByRecursion (λ b. b.pack ≢ pack) bounds → bound_at bounds pack row column ≡ none
none_there [] pack row column others = refl
none_there (b ∷ bounds) pack row column others =
    rw (not_of b pack row column others.0) (none_there bounds pack row column others.1)

in_front : (bounds : List Bound) (k pack row column : ℕ) → AllByRecursion (λ b. b.pack ≢ pack) (drop k bounds)
    → bound_at bounds pack row column ≡ bound_at (take k bounds) pack row column
in_front [] zero pack row column others = refl
in_front [] (suc k) pack row column others = refl
in_front (b ∷ bounds) zero pack row column others = none_there (b ∷ bounds) pack row column others
in_front (b ∷ bounds) (suc k) pack row column others =
    ap (λ (x : ℤ). if is_of b pack row column then b.most else x) (in_front bounds k pack row column others)

behind : (bounds : List Bound) (k pack row column : ℕ) → AllByRecursion (λ b. b.pack ≢ pack) (take k bounds)
    → bound_at bounds pack row column ≡ bound_at (drop k bounds) pack row column
behind [] zero pack row column others = refl
behind [] (suc k) pack row column others = refl
behind (b ∷ bounds) zero pack row column others = refl
behind (b ∷ bounds) (suc k) pack row column others =
    rw (not_of b pack row column others.0) (behind bounds k pack row column others.1)

-- ---- matrices

same_matrix : (pack size : ℕ) (as_ bs : List Bound) → ((row column : ℕ) → bound_at as_ pack row column ≡ bound_at bs pack row column)
    → claimed_matrix as_ pack size ≡ claimed_matrix bs pack size
same_matrix pack size as_ bs same =
    λ i. matrix_of size (λ k. if nat_eq (k / (size + 1)) (k % (size + 1)) then pos 0 else same (k / (size + 1)) (k % (size + 1)) i)

-- packs above one
others_than : (q pack : ℕ) (bounds : List Bound) → pack < q → AllByRecursion (λ b. b.pack ≡ pack) bounds → AllByRecursion (λ b. b.pack ≢ q) bounds
others_than q pack [] above own = tt
others_than q pack (b ∷ bounds) above own = ((λ e. let f = own.0 in omega (arith, above, e, f)), others_than q pack bounds above own.1)

later_than : (pack : ℕ) (bounds : List Bound) → AllByRecursion (λ b. suc pack ≤ b.pack) bounds → AllByRecursion (λ b. b.pack ≢ pack) bounds
later_than pack [] later = tt
later_than pack (b ∷ bounds) later = ((λ e. let f = later.0 in omega (arith, e, f)), later_than pack bounds later.1)

later_matrices : (ns : List ℕ) (q pack k : ℕ) (bounds : List Bound) → pack < q → AllByRecursion (λ b. b.pack ≡ pack) (take k bounds)
    → matrices_from q ns bounds ≡ matrices_from q ns (drop k bounds)
later_matrices [] q pack k bounds above own = refl
later_matrices (n ∷ ns) q pack k bounds above own =
    let first = same_matrix q n bounds (drop k bounds) (λ row column. behind bounds k q row column (others_than q pack (take k bounds) above own)) in
    let rest = later_matrices ns (suc q) pack k bounds (omega (arith, above)) own in
    λ i. first i ∷ rest i

pub shared : (n : ℕ) (ns : List ℕ) (pack k : ℕ) (bounds : List Bound) → AllByRecursion (λ b. b.pack ≡ pack) (take k bounds)
    → AllByRecursion (λ b. suc pack ≤ b.pack) (drop k bounds)
    → matrices_from pack (n ∷ ns) bounds ≡ claimed_matrix (take k bounds) pack n ∷ matrices_from (suc pack) ns (drop k bounds)
shared n ns pack k bounds own later =
    let first = same_matrix pack n bounds (take k bounds) (λ row column. in_front bounds k pack row column (later_than pack (drop k bounds) later)) in
    let rest = later_matrices ns (suc pack) pack k bounds (omega arith) own in
    λ i. first i ∷ rest i

-- ---- rising packs

pub all_above : (q p : ℕ) (bounds : List Bound) → q ≤ p → PacksRise p bounds → AllByRecursion (λ b. q ≤ b.pack) bounds
all_above q p [] low rise = tt
all_above q p (b ∷ bounds) low rise =
    let first : q ≤ b.pack = omega (arith, low, rise.0) in
    (first, all_above q b.pack bounds first rise.1)

pub rise_behind : (pack k : ℕ) (bounds : List Bound) → PacksRise pack bounds → AllByRecursion (λ b. b.pack ≡ pack) (take k bounds)
    → ((b : Bound) → slice_get bounds k ≡ Some b → b.pack ≢ pack) → PacksRise (suc pack) (drop k bounds)
rise_behind pack zero [] rise own next = tt
rise_behind pack (suc k) [] rise own next = tt
rise_behind pack zero (b ∷ bounds) rise own next = (let ne = next b refl in let low = rise.0 in omega (arith, ne, low), rise.1)
rise_behind pack (suc k) (b ∷ bounds) rise own next =
    rise_behind pack k bounds (subst (λ n. PacksRise n bounds) own.0 rise.1) own.1 next

-- ---- places

own_places : (pack n : ℕ) (ns : List ℕ) (k : ℕ) (bounds : List Bound) → AllByRecursion (λ b. HasPlaces (get_or (n ∷ ns) (b.pack - pack) 0) b) bounds
    → AllByRecursion (λ b. b.pack ≡ pack) (take k bounds) → AllByRecursion (IsBoundOf pack n) (take k bounds)
own_places pack n ns zero [] places own = tt
own_places pack n ns (suc k) [] places own = tt
own_places pack n ns zero (b ∷ bounds) places own = tt
own_places pack n ns (suc k) (b ∷ bounds) places own =
    let here : b.pack - pack ≡ 0 = let e = own.0 in omega (arith, e) in (
      record { same = own.0; places = subst (λ m. HasPlaces (get_or (n ∷ ns) m 0) b) here places.0 },
      own_places pack n ns k bounds places.1 own.1,
    )

places_behind : (pack n : ℕ) (ns : List ℕ) (k : ℕ) (bounds : List Bound) → AllByRecursion (λ b. HasPlaces (get_or (n ∷ ns) (b.pack - pack) 0) b) bounds
    → AllByRecursion (λ b. suc pack ≤ b.pack) (drop k bounds) → AllByRecursion (λ b. HasPlaces (get_or ns (b.pack - suc pack) 0) b) (drop k bounds)
places_behind pack n ns zero [] places later = tt
places_behind pack n ns (suc k) [] places later = tt
places_behind pack n ns zero (b ∷ bounds) places later =
    let next : b.pack - pack ≡ suc (b.pack - suc pack) = let low = later.0 in omega (arith, low) in
    (subst (λ m. HasPlaces (get_or (n ∷ ns) m 0) b) next places.0, places_behind pack n ns zero bounds places.1 later.1)
places_behind pack n ns (suc k) (b ∷ bounds) places later = places_behind pack n ns k bounds places.1 later

pub own_are : (pack n : ℕ) (ns : List ℕ) (k : ℕ) (bounds : List Bound) → AreFrom pack (n ∷ ns) bounds
    → AllByRecursion (λ b. b.pack ≡ pack) (take k bounds) → AllByRecursion (IsBoundOf pack n) (take k bounds)
own_are pack n ns k bounds are own = own_places pack n ns k bounds are.places own

pub behind_are : (pack n : ℕ) (ns : List ℕ) (k : ℕ) (bounds : List Bound) → AreFrom pack (n ∷ ns) bounds
    → PacksRise (suc pack) (drop k bounds) → AreFrom (suc pack) ns (drop k bounds)
behind_are pack n ns k bounds are rise = record {
  rise = rise;
  places = places_behind pack n ns k bounds are.places (all_above (suc pack) (suc pack) (drop k bounds) (omega arith) rise);
}

-- ---- bounds that a certificate may have

pub record IsFitting (packs : List (List ℕ)) (last : Key) (b : Bound) : Type 0 where
  pub after : last.pack ≤ b.pack
  pub first : 1 ≤ b.pack
  pub places : HasPlaces (length (get_or packs (b.pack - 1) [])) b
  pub small : unsigned_abs b.most ≤ 10 ^ 37

pub fitting : (packs : List (List ℕ)) (last : Key) (b : Bound) → bound_fits packs last b ≡ true → IsFitting packs last b
fitting packs last b h =
    let size = length (get_or packs (b.pack - 1) []) in
    let both = and_parts (is_before last (key_of b) && (leb 1 b.pack && leb b.pack (length packs))) (places_fit size (key_of b) && leb (unsigned_abs b.most) (10 ^ 37)) h in
    let place = and_parts (is_before last (key_of b)) (leb 1 b.pack && leb b.pack (length packs)) both.0 in
    let small = and_parts (places_fit size (key_of b)) (leb (unsigned_abs b.most) (10 ^ 37)) both.1 in
    let places = and_parts (leb b.row size && leb b.column size) (not (eqb b.row b.column)) small.0 in
    let within = and_parts (leb b.row size) (leb b.column size) places.0 in
    record {
      after = by_order (or_cases (ltb last.pack b.pack) (eqb last.pack b.pack && (ltb last.row b.row || (eqb last.row b.row && ltb last.column b.column))) place.0);
      first = leb-true _ _ (and_parts (leb 1 b.pack) (leb b.pack (length packs)) place.1).0;
      places = record { row = leb-true _ _ within.0; column = leb-true _ _ within.1; different = differ b.row b.column places.1 };
      small = leb-true _ _ small.1;
    }
  where
    differ : (x y : ℕ) → not (eqb x y) ≡ true → x ≢ y
    differ x y e same = absurd (grind arith)

    by_order : (ltb last.pack b.pack ≡ true) ⊎ ((eqb last.pack b.pack && (ltb last.row b.row || (eqb last.row b.row && ltb last.column b.column))) ≡ true) → last.pack ≤ b.pack
    by_order (inl e) = let less = ltb-true _ _ e in omega (arith, less)
    by_order (inr e) = let same = eqb-true _ _ (and_parts (eqb last.pack b.pack) (ltb last.row b.row || (eqb last.row b.row && ltb last.column b.column)) e).0 in omega (arith, same)

size_at : (packs : List (List ℕ)) (k : ℕ) → length (get_or packs k []) ≡ get_or (sizes_of packs) k 0
size_at [] zero = refl
size_at [] (suc k) = refl
size_at (p ∷ packs) zero = refl
size_at (p ∷ packs) (suc k) = size_at packs k

pub fit_parts : (packs : List (List ℕ)) (last : Key) (b : Bound) (bounds : List Bound) → bounds_fit packs last (b ∷ bounds) ≡ true
    → IsFitting packs last b × (bounds_fit packs (key_of b) bounds ≡ true)
fit_parts packs last b bounds h =
    let both = and_parts (bound_fits packs last b) (bounds_fit packs (key_of b) bounds) h in
    (fitting packs last b both.0, both.1)

fit_rise : (packs : List (List ℕ)) (last : Key) (bounds : List Bound) → bounds_fit packs last bounds ≡ true → PacksRise last.pack bounds
fit_rise packs last [] h = tt
fit_rise packs last (b ∷ bounds) h =
    let both = fit_parts packs last b bounds h in
    (both.0.after, fit_rise packs (key_of b) bounds both.1)

fit_places : (packs : List (List ℕ)) (last : Key) (bounds : List Bound) → bounds_fit packs last bounds ≡ true
    → AllByRecursion (λ b. HasPlaces (get_or (sizes_of packs) (b.pack - 1) 0) b) bounds
fit_places packs last [] h = tt
fit_places packs last (b ∷ bounds) h =
    let both = fit_parts packs last b bounds h in
    (subst (λ n. HasPlaces n b) (size_at packs (b.pack - 1)) both.0.places, fit_places packs (key_of b) bounds both.1)

pub fit_are : (packs : List (List ℕ)) (bounds : List Bound) → bounds_fit packs no_key bounds ≡ true → AreFrom 1 (sizes_of packs) bounds
fit_are packs bounds h = record { rise = from_one bounds h; places = fit_places packs no_key bounds h }
  where
    from_one : (bounds : List Bound) → bounds_fit packs no_key bounds ≡ true → PacksRise 1 bounds
    from_one [] h = tt
    from_one (b ∷ bounds) h =
        let both = fit_parts packs no_key b bounds h in
        (both.0.first, fit_rise packs (key_of b) bounds both.1)
