-- The certificate of what is known of cells and of packs at each node: a claim for each cell that is known, and a bound for
-- each word of a matrix that is a number.
use Rattle.std.specs.Prelude.{◌≡◌, ◌+◌, ◌*◌, ℕ, suc, List, [], ◌∷◌, ◌++◌, map, length, Some, None, IfSome, ℤ}
use Rattle.std.specs.List.{range_with_len}
use Rattle.interval_domain.specs.declared.bounds.Interval.{Interval}
use Rattle.interval_domain.specs.Known.{Known}
use Rattle.interval_domain.specs.Elements.{Element}
use Rattle.interval_domain.specs.Rows.{IsSaid, element_of}
use Rattle.cert_text.specs.declared.cert.Claim.{Claim}
use Rattle.cert_text.specs.View.{Place, NotReached, Holds, Certificate}
use Rattle.cert_text.specs.Gaps.{AreSmall}
use Rattle.cert_text.specs.MatrixClaims.{sizes_of}
use Rattle.cert_text.specs.Bounds.{row_bounds}

abbrev pub claim : ℕ → Interval → Claim
claim cell i = record { cell = cell; low = i.low; high = i.high }

-- the claims of a cell; a cell that may be anything has none
abbrev pub known_claims : ℕ → Known → List Claim
known_claims cell None = []
known_claims cell (Some i) = claim cell i ∷ []

-- the claims of the cells from one of them on
abbrev pub claims_from : ℕ → List Known → List Claim
claims_from cell [] = []
claims_from cell (c ∷ cs) = known_claims cell c ++ claims_from (suc cell) cs

-- a node's claims with a row of matrices for packs of these sizes; where no cells are reached, no differences are
abbrev pub place_for : List ℕ → Element → List ℤ → Place
place_for sizes None row = NotReached
place_for sizes (Some cs) row = Holds (claims_from 1 cs) (row_bounds sizes row)

abbrev pub places_for : List ℕ → ℕ → (ℕ → Element) → (ℕ → List ℤ) → List Place
places_for sizes nodes x bounds = map (λ node. place_for sizes (x node) (bounds node)) (range_with_len 1 nodes)

-- the certificate of so many cells and nodes
abbrev pub certificate_for : ℕ → List (List ℕ) → ℕ → (ℕ → Element) → (ℕ → List ℤ) → Certificate
certificate_for cells packs nodes x bounds = record { cells = cells; packs = packs; nodes = places_for (sizes_of packs) nodes x bounds }

-- a row of so many cells, with ends of at most 18 digits
pub record CanBeClaimed (cells : ℕ) (row : List ℤ) : Type 0 where
  pub said : IsSaid row
  pub width : length row ≡ 2 * cells + 1
  pub small : IfSome (element_of row) AreSmall
