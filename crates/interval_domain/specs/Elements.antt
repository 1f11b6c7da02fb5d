-- What is known of all cells: its order, joins and widening, cell by cell.
use Rattle.std.specs.Prelude.{ℕ, ◌+◌, ◌*◌, List, [], ◌∷◌, length, Option, Some, None, ℤ}
use Rattle.interval_domain.specs.declared.bounds.Interval.{Interval}
use Rattle.interval_domain.specs.Known.{Known, IsOrdered, KnownFits, KnownBelow, joined_known, widened_known, KnownWithin, HasEnds, known_rank}

-- nothing where no run comes
abbrev pub Element : Type 0
Element = Option (List Known)

abbrev pub AreOrdered : List Known → Type 0
AreOrdered [] = Unit {0}
AreOrdered (c ∷ cs) = IsOrdered c × AreOrdered cs

-- as many cells as own ranges, each within its own
abbrev pub CellsFit : List Interval → List Known → Type 0
CellsFit [] [] = Unit {0}
CellsFit (own ∷ owns) (c ∷ cs) = KnownFits own c × CellsFit owns cs
CellsFit _ _ = ⊥

abbrev pub ElementFits : List Interval → Element → Type 0
ElementFits owns None = Unit {0}
ElementFits owns (Some cs) = CellsFit owns cs

-- ---- the order
abbrev pub CellsBelow : List Known → List Known → Type 0
CellsBelow [] [] = Unit {0}
CellsBelow (a ∷ as_) (b ∷ bs) = KnownBelow a b × CellsBelow as_ bs
CellsBelow _ _ = ⊥

abbrev pub ElementBelow : Element → Element → Type 0
ElementBelow None b = Unit {0}
ElementBelow (Some as_) None = ⊥
ElementBelow (Some as_) (Some bs) = CellsBelow as_ bs

-- ---- joins
abbrev pub joined : List Known → List Known → List Known
joined (a ∷ as_) (b ∷ bs) = joined_known a b ∷ joined as_ bs
joined _ _ = []

abbrev pub joined_element : Element → Element → Element
joined_element None b = b
joined_element (Some as_) None = Some as_
joined_element (Some as_) (Some bs) = Some (joined as_ bs)

-- ---- widening, by a list of thresholds for each cell
abbrev pub widened : List (List ℤ) → List Known → List Known → List Known
widened (ts ∷ thresholds) (a ∷ as_) (b ∷ bs) = widened_known ts a b ∷ widened thresholds as_ bs
widened _ _ _ = []

-- a first arrival is taken as it is
abbrev pub widened_element : List (List ℤ) → Element → Element → Element
widened_element thresholds None b = b
widened_element thresholds (Some as_) None = Some as_
widened_element thresholds (Some as_) (Some bs) = Some (widened thresholds as_ bs)

abbrev pub CellsWithin : List (List ℤ) → List Known → Type 0
CellsWithin [] [] = Unit {0}
CellsWithin (ts ∷ thresholds) (c ∷ cs) = KnownWithin ts c × CellsWithin thresholds cs
CellsWithin _ _ = ⊥

-- each interval lies between its cell's first threshold and its last
abbrev pub ElementWithin : List (List ℤ) → Element → Type 0
ElementWithin thresholds None = Unit {0}
ElementWithin thresholds (Some cs) = CellsWithin thresholds cs

-- a list of thresholds for each cell, from the low end of its own range to the high end
abbrev pub AreThresholds : List Interval → List (List ℤ) → Type 0
AreThresholds [] [] = Unit {0}
AreThresholds (own ∷ owns) (ts ∷ thresholds) = HasEnds own ts × AreThresholds owns thresholds
AreThresholds _ _ = ⊥

-- ---- how often it can grow
abbrev pub cells_rank : List (List ℤ) → List Known → ℕ
cells_rank [] cs = 0
cells_rank (ts ∷ thresholds) [] = 0
cells_rank (ts ∷ thresholds) (c ∷ cs) = known_rank ts c + cells_rank thresholds cs

abbrev pub cells_height : List (List ℤ) → ℕ
cells_height [] = 0
cells_height (ts ∷ thresholds) = 2 * length ts + 1 + cells_height thresholds

-- it grows once from nothing
abbrev pub height_of : List (List ℤ) → ℕ
height_of thresholds = 1 + cells_height thresholds

abbrev pub element_rank : List (List ℤ) → Element → ℕ
element_rank thresholds None = height_of thresholds
element_rank thresholds (Some cs) = cells_rank thresholds cs
