-- Least ranges of results of operations on decimals.
use Rattle.std.specs.Prelude.{◌≡◌, Bool, Option, Some, None}
use Rattle.dec_num.specs.declared.types.Scaled.{Scaled}
use Rattle.interval_domain.specs.Bounds.{IsLeast}
use Rattle.cob_program.specs.Values.{negated}
use Rattle.sum_ranges.specs.declared.ranged.Ranged.{Ranged}
use Rattle.sum_ranges.specs.Ranged.{decimal, IsIn}

-- the operation gives x for some number of a and some number of b
abbrev pub IsResult : (Scaled → Scaled → Option Scaled) → Ranged → Ranged → Scaled → Type 0
IsResult operation a b x = (v : Scaled) × (w : Scaled) × IsIn v a × IsIn w b × (operation v w ≡ Some x)

-- x is a number of a, with its sign changed where `minus` says so
abbrev pub IsTurned : Bool → Ranged → Scaled → Type 0
IsTurned minus a x = (v : Scaled) × IsIn v a × (x ≡ negated minus v)

-- the decimals of which R is true have one scale, and r is their least interval
pub record IsLeastRange (R : Scaled → Type 0) (r : Ranged) : Type 0 where
  pub scale : (x : Scaled) → R x → x.scale ≡ r.scale
  pub least : IsLeast (λ z. R (decimal z r.scale)) r.units

-- Their least range; nothing where R is true of none.
abbrev pub IsRangeOf : (Scaled → Type 0) → Option Ranged → Type 0
IsRangeOf R None = (x : Scaled) → R x → ⊥
IsRangeOf R (Some r) = IsLeastRange R r
