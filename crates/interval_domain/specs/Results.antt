-- The results of operations on the numbers of two intervals.
use Rattle.std.specs.Prelude.{◌≡◌, ◌≢◌, ◌^◌, ◌⊎◌, ℤ, pos, neg_ℤ, ◌+ℤ◌, ◌-ℤ◌, ◌*ℤ◌}
use Rattle.std.specs.Int.{int_max, int_min}
use Rattle.dec_num.specs.declared.types.Mode.{Mode}
use Rattle.dec_num.specs.Exact.{near, ratio_of}
use Rattle.interval_domain.specs.declared.bounds.Interval.{Interval}
use Rattle.interval_domain.specs.Bounds.{Holds, IsSmall, IsLeast}

abbrev pub IsOfEither : Interval → Interval → ℤ → Type 0
IsOfEither a b z = Holds a z ⊎ Holds b z

-- some number of a and some number of b add up to z
abbrev pub IsSum : Interval → Interval → ℤ → Type 0
IsSum a b z = (x : ℤ) × (y : ℤ) × Holds a x × Holds b y × (z ≡ x +ℤ y)

abbrev pub IsDifference : Interval → Interval → ℤ → Type 0
IsDifference a b z = (x : ℤ) × (y : ℤ) × Holds a x × Holds b y × (z ≡ x -ℤ y)

abbrev pub IsProduct : Interval → Interval → ℤ → Type 0
IsProduct a b z = (x : ℤ) × (y : ℤ) × Holds a x × Holds b y × (z ≡ x *ℤ y)

-- n's numbers over d's numbers that aren't 0, times 10 ^ up, cut or rounded
abbrev pub IsQuotient : Interval → Interval → ℤ → Mode → ℤ → Type 0
IsQuotient n d up mode z = (x : ℤ) × (y : ℤ) × Holds n x × Holds d y × (y ≢ pos 0) × (z ≡ near mode (ratio_of x y) up)

-- all results are small
abbrev pub AreSmall : (ℤ → Type 0) → Type 0
AreSmall R = (z : ℤ) → R z → IsSmall z

-- z, or 10 ^ 37 with its sign where z reaches that
abbrev pub capped : ℤ → ℤ
capped z = int_max (neg_ℤ (pos (10 ^ 37))) (int_min z (pos (10 ^ 37)))

-- the least interval that holds every number of which R is true, with its ends capped
abbrev pub IsLeastCapped : (ℤ → Type 0) → Interval → Type 0
IsLeastCapped R i = (exact : Interval) × IsLeast R exact × (i.low ≡ capped exact.low) × (i.high ≡ capped exact.high)
