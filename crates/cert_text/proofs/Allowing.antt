-- What certificates allow.
use Rattle.std.proofs.Common.{◌≡◌, ℕ, zero, suc, ◌-◌, ◌≤◌, true, ◌&&◌, leb, List, [], ◌∷◌, length, get_or}
use Rattle.std.specs.List.{AllByRecursion}
use Rattle.std.proofs.lemmas.Bool.{and_parts, leb-true}
use Rattle.cert_text.specs.View.{Place, NotReached, Holds}
use Rattle.cert_text.specs.Allowed.{bounds_fit, cells_rise, claims_fit, no_key, pack_fits, packs_fit, place_fits, places_all_fit}
use Rattle.cert_text.specs.MatrixClaims.{HasFittingBounds, sizes_of}
use Rattle.cert_text.specs.MatrixGaps.{AllowedClaimsFit}

sizes_are_small : (cells : ℕ) (packs : List (List ℕ)) → packs_fit cells packs ≡ true → AllByRecursion (λ n. n ≤ 8) (sizes_of packs)
sizes_are_small cells [] h = tt
sizes_are_small cells (p ∷ packs) h =
    let both = and_parts (pack_fits cells p) (packs_fit cells packs) h in
    let size = and_parts (leb 2 (length p) && leb (length p) 8) (cells_rise cells 0 p) both.0 in
    (leb-true _ _ (and_parts (leb 2 (length p)) (leb (length p) 8) size.0).1, sizes_are_small cells packs both.1)

bounds_of_place : (cells : ℕ) (packs : List (List ℕ)) (place : Place) → place_fits cells packs place ≡ true → HasFittingBounds packs place
bounds_of_place cells packs NotReached h = tt
bounds_of_place cells packs (Holds claims bounds) h = (and_parts (claims_fit cells 0 claims) (bounds_fit packs no_key bounds) h).1

bounds_at : (cells : ℕ) (packs : List (List ℕ)) (places : List Place) (k : ℕ) → places_all_fit cells packs places ≡ true
    → HasFittingBounds packs (get_or places k NotReached)
bounds_at cells packs [] zero h = tt
bounds_at cells packs [] (suc k) h = tt
bounds_at cells packs (place ∷ places) zero h =
    bounds_of_place cells packs place (and_parts (place_fits cells packs place) (places_all_fit cells packs places) h).0
bounds_at cells packs (place ∷ places) (suc k) h =
    bounds_at cells packs places k (and_parts (place_fits cells packs place) (places_all_fit cells packs places) h).1

pub claims_fit_there : AllowedClaimsFit
claims_fit_there c allowed =
    (sizes_are_small c.cells c.packs allowed.each_pack, λ node. bounds_at c.cells c.packs c.nodes (node - 1) allowed.each_node)
