-- Rows of words: 1 where the place is reached, then two words for each cell. Where it isn't reached all words are 0.
use Rattle.std.specs.Prelude.{◌≡◌, ℕ, suc, ◌*◌, List, [], ◌∷◌, length, Bool, map, replicate, Some, None, Vec, ℤ, pos, int_lt, int_le, if◌then◌else◌, slice_index_or}
use Rattle.std.specs.declared.alloc.Global.{Global}
use Rattle.dom_laws.specs.Lattice.{Lattice, IsLattice}
use Rattle.interval_domain.specs.declared.bounds.Interval.{Interval}
use Rattle.interval_domain.specs.Corners.{interval}
use Rattle.interval_domain.specs.Known.{Known}
use Rattle.interval_domain.specs.Elements.{Element, ElementFits, ElementBelow, joined_element, widened_element, AreThresholds, height_of, element_rank}

-- ---- two words for a cell: the ends of its interval, or 1 and 0 where it is anything
abbrev pub low_of : Known → ℤ
low_of None = pos 1
low_of (Some i) = i.low

abbrev pub high_of : Known → ℤ
high_of None = pos 0
high_of (Some i) = i.high

abbrev pub known_of : ℤ → ℤ → Known
known_of low high = if int_le low high then Some (interval low high) else None

abbrev pub words_in : List Known → List ℤ
words_in [] = []
words_in (c ∷ cs) = low_of c ∷ high_of c ∷ words_in cs

abbrev pub cells_in : List ℤ → List Known
cells_in (low ∷ high ∷ words) = known_of low high ∷ cells_in words
cells_in (low ∷ []) = []
cells_in [] = []

-- ---- rows
abbrev pub row_of : List Known → List ℤ
row_of cs = pos 1 ∷ words_in cs

abbrev pub cells_of : List ℤ → List Known
cells_of [] = []
cells_of (flag ∷ words) = cells_in words

abbrev pub known_at : List Known → ℕ → Known
known_at cs k = slice_index_or cs k None

abbrev pub is_reached : List ℤ → Bool
is_reached row = int_lt (pos 0) (slice_index_or row 0 (pos 0))

abbrev pub element_of : List ℤ → Element
element_of row = if is_reached row then Some (cells_of row) else None

-- the row of so many words
abbrev pub row_from : ℕ → Element → List ℤ
row_from width None = replicate width (pos 0)
row_from width (Some cs) = row_of cs

-- the row is exactly that of its cells
abbrev pub IsReached : List ℤ → Type 0
IsReached row = row ≡ row_of (cells_of row)

-- the row is exactly that of its element
abbrev pub IsSaid : List ℤ → Type 0
IsSaid row = row ≡ row_from (length row) (element_of row)

-- a word more than two for each cell
abbrev pub width_of : List Interval → ℕ
width_of owns = suc (2 * length owns)

pub record IsRow (owns : List Interval) (row : List ℤ) : Type 0 where
  pub said : row ≡ row_from (width_of owns) (element_of row)
  pub fits : ElementFits owns (element_of row)

-- ---- the lattice of rows for cells with these own ranges and thresholds
abbrev pub RowBelow : List ℤ → List ℤ → Type 0
RowBelow a b = ElementBelow (element_of a) (element_of b)

abbrev pub joined_row : List ℤ → List ℤ → List ℤ
joined_row a b = row_from (length a) (joined_element (element_of a) (element_of b))

abbrev pub widened_row : List (List ℤ) → List ℤ → List ℤ → List ℤ
widened_row thresholds a b = row_from (length a) (widened_element thresholds (element_of a) (element_of b))

abbrev pub cells_lattice : List Interval → List (List ℤ) → Lattice
cells_lattice owns thresholds = record {
  width = width_of owns;
  IsWellFormed = IsRow owns;
  Below = RowBelow;
  least = row_from (width_of owns) None;
  join = joined_row;
  widen = widened_row thresholds;
  rank = λ row. element_rank thresholds (element_of row);
  height = height_of thresholds;
}

abbrev pub RowsAreALattice : Type 0
RowsAreALattice = (owns : List Interval) (thresholds : List (List ℤ)) → AreThresholds owns thresholds → IsLattice (cells_lattice owns thresholds)

-- the thresholds as lists of numbers
abbrev pub lists_of : List (Vec ℤ Global) → List (List ℤ)
lists_of thresholds = map (λ list. list.items) thresholds
