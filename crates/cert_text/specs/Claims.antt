-- What the claims of a node mean: an interval for each cell that has one, met with the range of its own.
use Rattle.std.specs.Prelude.{ℕ, zero, suc, ◌-◌, ◌==◌, if◌then◌else◌, List, [], ◌∷◌, length, Option, Some, None, ℤ, int_le, slice_index_or}
use Rattle.std.specs.Int.{int_max, int_min}
use Rattle.interval_domain.specs.declared.bounds.Interval.{Interval}
use Rattle.interval_domain.specs.Corners.{interval}
use Rattle.interval_domain.specs.Known.{Known}
use Rattle.interval_domain.specs.Elements.{Element}
use Rattle.interval_domain.specs.Rows.{row_from, width_of}
use Rattle.cert_text.specs.declared.cert.Claim.{Claim}
use Rattle.cert_text.specs.View.{Place, NotReached, Holds, Certificate}

-- ---- as they are written

-- the first claim, if it is of this cell
abbrev pub claim_at : List Claim → ℕ → Known
claim_at [] cell = None
claim_at (c ∷ claims) cell = if c.cell == cell then Some (interval c.low c.high) else None

-- the claims behind that of this cell
abbrev pub claims_behind : List Claim → ℕ → List Claim
claims_behind [] cell = []
claims_behind (c ∷ claims) cell = if c.cell == cell then claims else c ∷ claims

-- what claims by rising cell say of so many cells, from one of them on
abbrev pub written_from : ℕ → ℕ → List Claim → List Known
written_from cell zero claims = []
written_from cell (suc more) claims = claim_at claims cell ∷ written_from (suc cell) more (claims_behind claims cell)

-- A cell without a claim may be anything. No run comes to a node that is claimed not to be reached.
abbrev pub written_element : ℕ → Place → Element
written_element cells NotReached = None
written_element cells (Holds claims bounds) = Some (written_from 1 cells claims)

-- the node with a number from 1
abbrev pub place_at : Certificate → ℕ → Place
place_at c node = slice_index_or c.nodes (node - 1) NotReached

-- ---- as they are meant

-- the interval of the numbers that are in both intervals
abbrev pub met : Interval → Interval → Interval
met a b = interval (int_max a.low b.low) (int_min a.high b.high)

-- the interval, or nothing where it holds no number
abbrev pub if_ordered : Interval → Option Known
if_ordered i = if int_le i.low i.high then Some (Some i) else None

abbrev pub met_known : Interval → Known → Option Known
met_known own None = Some None
met_known own (Some i) = if_ordered (met own i)

abbrev pub with_cell : Option Known → Element → Element
with_cell None cells = None
with_cell (Some c) None = None
with_cell (Some c) (Some cs) = Some (c ∷ cs)

-- each cell is met with its own range; where nothing is left of one no run comes
abbrev pub met_cells : List Interval → List Known → Element
met_cells (own ∷ owns) (c ∷ cs) = with_cell (met_known own c) (met_cells owns cs)
met_cells [] cs = Some []
met_cells (own ∷ owns) [] = Some []

abbrev pub met_element : List Interval → Element → Element
met_element owns None = None
met_element owns (Some cs) = met_cells owns cs

abbrev pub claimed_element : List Interval → Place → Element
claimed_element owns place = met_element owns (written_element (length owns) place)

-- The row that the claims of a node mean.
abbrev pub claimed_row : List Interval → Place → List ℤ
claimed_row owns place = row_from (width_of owns) (claimed_element owns place)
