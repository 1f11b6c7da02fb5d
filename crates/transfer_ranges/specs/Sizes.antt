-- What the arithmetic of intervals works with.
use Rattle.std.specs.Prelude.{◌≡◌, true, ℕ, ◌^◌, ◌≤◌, ℤ, pos, neg_ℤ, Option, Some, None, IfSome}
use Rattle.std.specs.Int.{int_max, int_min}
use Rattle.dec_num.specs.declared.types.Mode.TheVariants.{Trunc}
use Rattle.interval_domain.specs.declared.bounds.Interval.{Interval}
use Rattle.cob_program.specs.declared.act.How.{How}
use Rattle.cob_program.specs.declared.act.How.TheVariants as how
use Rattle.sum_ranges.specs.declared.ranged.Ranged.{Ranged}
use Rattle.sum_ranges.specs.Ranged.{ranged}
use Rattle.sum_ranges.specs.SumRanges.{turned, product_range}
use Rattle.sum_ranges.specs.Sizes.{IsSmallRange}
use Rattle.sum_ranges.specs.Working.{CanAddRanges, CanMultiplyRanges}
use Rattle.transfer_ranges.specs.declared.amounts.Taken.{Taken}
use Rattle.transfer_ranges.specs.declared.amounts.AmountRange.{AmountRange}
use Rattle.transfer_ranges.specs.declared.amounts.AmountRange.TheVariants as range
use Rattle.transfer_ranges.specs.declared.amounts.Receiver.{Receiver}
use Rattle.transfer_ranges.specs.ResultRanges.{quotient_units}

-- digits as pictures have them
pub record IsReceiver (r : Receiver) : Type 0 where
  pub some : 1 ≤ r.digits
  pub digits : r.digits ≤ 18
  pub scale : r.scale ≤ r.digits

-- A cut quotient's product with the divisor can be worked out, and what that leaves of n.
pub record IsSmallRest (n d q : Ranged) : Type 0 where
  pub quotient : IsSmallRange q
  pub product : CanMultiplyRanges d q
  pub rest : CanAddRanges n (turned true (product_range d q))

pub record IsSmallRemainder (top under : Ranged) (scale : ℕ) : Type 0 where
  pub divided : IsSmallRange top
  pub divisor : IsSmallRange under
  pub decimals : scale ≤ 18
  pub rest : IfSome (quotient_units Trunc scale top under) (λ q. IsSmallRest top under (ranged q scale))

abbrev pub IsSmallAmount : AmountRange → Type 0
IsSmallAmount (range.Decimal r) = IsSmallRange r
IsSmallAmount (range.Quotient top under) = IsSmallRange top × IsSmallRange under
IsSmallAmount (range.Remainder top under scale) = IsSmallRemainder top under scale

-- what a receiver is to get can be worked out
abbrev pub CanCompute : How → Ranged → Taken → Type 0
CanCompute how.Whole own t = Unit {0}
CanCompute how.Plus own t = CanAddRanges own t.top
CanCompute how.Minus own t = IsSmallRange t.top × CanAddRanges own (turned true t.top)
CanCompute how.Times own t = CanMultiplyRanges own t.top
CanCompute how.Under own t = Unit {0}

-- ---- capped ends

-- z, or the limit with its sign where z goes beyond
abbrev pub capped_at : ℕ → ℤ → ℤ
capped_at limit z = int_max (neg_ℤ (pos limit)) (int_min z (pos limit))

-- the second is the first with its ends capped at a limit
pub record IsCapped (limit : ℕ) (exact i : Interval) : Type 0 where
  pub low : i.low ≡ capped_at limit exact.low
  pub high : i.high ≡ capped_at limit exact.high

abbrev pub IsCappedIfAny : ℕ → Option Interval → Option Interval → Type 0
IsCappedIfAny limit None None = Unit {0}
IsCappedIfAny limit (Some exact) (Some i) = IsCapped limit exact i
IsCappedIfAny limit _ _ = ⊥

-- The same for a receiver of so many digits, which a limit beyond them changes nothing for.
abbrev pub IsSameFor : ℕ → Option Interval → Option Interval → Type 0
IsSameFor digits exact o = (limit : ℕ) × (10 ^ digits ≤ limit) × IsCappedIfAny limit exact o
