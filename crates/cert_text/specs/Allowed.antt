-- Which certificates there are.
use Rattle.std.specs.Prelude.{ℕ, ◌-◌, ◌^◌, ◌<◌, ◌≤◌, Bool, true, ◌&&◌, ◌||◌, not, nat_lt, nat_le, ◌==◌, List, [], ◌∷◌, length, get_or, IsTrue, unsigned_abs, int_le}
use Rattle.cert_text.specs.declared.cert.Claim.{Claim}
use Rattle.cert_text.specs.declared.cert.Bound.{Bound}
use Rattle.cert_text.specs.declared.draft.Key.{Key}
use Rattle.cert_text.specs.View.{Place, NotReached, Holds, Certificate}

-- the cells rise from above the last one, up to the number of cells
abbrev pub cells_rise : ℕ → ℕ → List ℕ → Bool
cells_rise cells last [] = true
cells_rise cells last (c ∷ cs) = (nat_lt last c && nat_le c cells) && cells_rise cells c cs

-- a pack has 2 to 8 rising cells
abbrev pub pack_fits : ℕ → List ℕ → Bool
pack_fits cells pack = (nat_le 2 (length pack) && nat_le (length pack) 8) && cells_rise cells 0 pack

abbrev pub packs_fit : ℕ → List (List ℕ) → Bool
packs_fit cells [] = true
packs_fit cells (p ∷ ps) = pack_fits cells p && packs_fit cells ps

-- a claim is of a cell after the last one, its ends are in order, and each is below 10 ^ 18
abbrev pub claim_fits : ℕ → ℕ → Claim → Bool
claim_fits cells last c =
    (nat_lt last c.cell && nat_le c.cell cells)
    && (int_le c.low c.high && (nat_lt (unsigned_abs c.low) (10 ^ 18) && nat_lt (unsigned_abs c.high) (10 ^ 18)))

abbrev pub claims_fit : ℕ → ℕ → List Claim → Bool
claims_fit cells last [] = true
claims_fit cells last (c ∷ cs) = claim_fits cells last c && claims_fit cells c.cell cs

-- pack, row and column of a bound
abbrev pub key_of : Bound → Key
key_of b = record { pack = b.pack; row = b.row; column = b.column }

-- a key that comes before that of every bound
abbrev pub no_key : Key
no_key = record { pack = 0; row = 0; column = 0 }

-- The order of bounds: by pack, then by row, then by column.
abbrev pub is_before : Key → Key → Bool
is_before a b =
    nat_lt a.pack b.pack
    || ((a.pack == b.pack) && (nat_lt a.row b.row || ((a.row == b.row) && nat_lt a.column b.column)))

-- places of a pack with so many cells, 0 among them, that differ
abbrev pub places_fit : ℕ → Key → Bool
places_fit size k = (nat_le k.row size && nat_le k.column size) && not (k.row == k.column)

-- a bound comes after the last one, is of places of a pack, and is within 10 ^ 37
abbrev pub bound_fits : List (List ℕ) → Key → Bound → Bool
bound_fits packs last b =
    (is_before last (key_of b) && (nat_le 1 b.pack && nat_le b.pack (length packs)))
    && (places_fit (length (get_or packs (b.pack - 1) [])) (key_of b) && nat_le (unsigned_abs b.most) (10 ^ 37))

abbrev pub bounds_fit : List (List ℕ) → Key → List Bound → Bool
bounds_fit packs last [] = true
bounds_fit packs last (b ∷ bs) = bound_fits packs last b && bounds_fit packs (key_of b) bs

abbrev pub place_fits : ℕ → List (List ℕ) → Place → Bool
place_fits cells packs NotReached = true
place_fits cells packs (Holds claims bounds) = claims_fit cells 0 claims && bounds_fit packs no_key bounds

abbrev pub places_all_fit : ℕ → List (List ℕ) → List Place → Bool
places_all_fit cells packs [] = true
places_all_fit cells packs (p ∷ ps) = place_fits cells packs p && places_all_fit cells packs ps

-- A certificate has fewer than 2 ^ 32 cells and nodes and at most 32 packs, and each of its parts fits.
pub record IsAllowed (c : Certificate) : Type 0 where
  pub cells : c.cells < 2 ^ 32
  pub nodes : length c.nodes < 2 ^ 32
  pub packs : length c.packs ≤ 32
  pub each_pack : IsTrue (packs_fit c.cells c.packs)
  pub each_node : IsTrue (places_all_fit c.cells c.packs c.nodes)
