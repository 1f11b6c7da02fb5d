-- The places at which what is reached of packs doesn't lie in what is claimed of them.
use Rattle.std.specs.Prelude.{◌≡◌, ◌≢◌, ◌↔◌, ◌≤◌, ℕ, suc, ◌+◌, ◌/◌, ◌%◌, List, [], ◌∷◌, ◌++◌, length, take, drop, Some, ℤ, pos, int_lt, if◌then◌else◌, slice_index_or}
use Rattle.std.specs.List.{AllByRecursion, Contains, flat_map, range_with_len}
use Rattle.dom_laws.specs.Lattice.{IsElement}
use Rattle.diff_bounds.specs.Numbers.{number_of}
use Rattle.diff_bounds.specs.PackRows.{words_of, packs_lattice}
use Rattle.cert_text.specs.declared.cert.Claim.{Claim}
use Rattle.cert_text.specs.declared.cert.Bound.{Bound}
use Rattle.cert_text.specs.View.{Place, NotReached, Holds, Certificate}
use Rattle.cert_text.specs.Allowed.{IsAllowed}
use Rattle.cert_text.specs.declared.gap.Gap.{Gap}
use Rattle.cert_text.specs.declared.gap.Gap.TheVariants.{Diff}
use Rattle.cert_text.specs.Claims.{place_at}
use Rattle.cert_text.specs.MatrixClaims.{HasFittingBounds, claimed_row, sizes_of}

-- the gaps at a place of a pack's matrix, places counted row by row
abbrev pub word_gaps : ℕ → ℕ → ℕ → ℤ → ℤ → List Gap
word_gaps pack size k reached claimed =
    if int_lt claimed reached then Diff pack (k / (size + 1)) (k % (size + 1)) (number_of reached) claimed ∷ [] else []

abbrev pub matrix_gaps : ℕ → ℕ → List ℤ → List ℤ → List Gap
matrix_gaps pack size reached claimed =
    flat_map (λ k. word_gaps pack size k (slice_index_or reached k (pos 0)) (slice_index_or claimed k (pos 0)))
    (range_with_len 0 (words_of size))

-- the gaps of a row from a pack on, packs given by their sizes
abbrev pub gaps_from : ℕ → List ℕ → List ℤ → List ℤ → List Gap
gaps_from pack [] reached claimed = []
gaps_from pack (n ∷ ns) reached claimed =
    matrix_gaps pack n (take (words_of n) reached) (take (words_of n) claimed)
    ++ gaps_from (suc pack) ns (drop (words_of n) reached) (drop (words_of n) claimed)

-- All gaps of what is reached in what is claimed, by pack, row and column.
abbrev pub gaps : List ℕ → List ℤ → List ℤ → List Gap
gaps sizes reached claimed = gaps_from 1 sizes reached claimed

-- ---- the laws

-- Each pack of a certificate has 8 cells at most, and each node the bounds that it may have.
abbrev pub AllowedClaimsFit : Type 0
AllowedClaimsFit =
    (c : Certificate) → IsAllowed c
    → AllByRecursion (λ n. n ≤ 8) (sizes_of c.packs) × ((node : ℕ) → HasFittingBounds c.packs (place_at c node))

-- The row that claims mean is an element of the lattice of rows.
abbrev pub ClaimedRowsAreElements : Type 0
ClaimedRowsAreElements =
    (packs : List (List ℕ)) (lists : List (List ℤ)) (place : Place) → length lists ≡ length packs → HasFittingBounds packs place
    → IsElement (packs_lattice (sizes_of packs) lists) (claimed_row (sizes_of packs) place)

-- The row of a node that is claimed not to be reached is the least one.
abbrev pub UnreachedRowsAreLeast : Type 0
UnreachedRowsAreLeast =
    (sizes : List ℕ) (lists : List (List ℤ)) → length lists ≡ length sizes
    → claimed_row sizes NotReached ≡ (packs_lattice sizes lists).least

-- There are no gaps exactly where what is reached lies below what is claimed.
abbrev pub GapsTellTheOrder : Type 0
GapsTellTheOrder =
    (sizes : List ℕ) (lists : List (List ℤ)) (reached claimed : List ℤ) → length lists ≡ length sizes
    → IsElement (packs_lattice sizes lists) reached → IsElement (packs_lattice sizes lists) claimed
    → (gaps sizes reached claimed ≡ []) ↔ (packs_lattice sizes lists).Below reached claimed

-- the gap is of a bound that is claimed, and what is reached differs from it
abbrev pub IsOfBound : List Bound → Gap → Type 0
IsOfBound bounds (Diff pack row column reached claimed) =
    Contains bounds (record { pack = pack; row = row; column = column; most = claimed }) × (reached ≢ Some claimed)
IsOfBound bounds _ = ⊥

-- What isn't claimed has no gap.
abbrev pub GapsAreOfBounds : Type 0
GapsAreOfBounds =
    (sizes : List ℕ) (lists : List (List ℤ)) (claims : List Claim) (bounds : List Bound) (reached : List ℤ)
    → length lists ≡ length sizes → IsElement (packs_lattice sizes lists) reached
    → AllByRecursion (IsOfBound bounds) (gaps sizes reached (claimed_row sizes (Holds claims bounds)))
