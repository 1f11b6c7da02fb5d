-- The exact values that an amount can be, where its operands lie in ranges.
use Rattle.std.specs.Prelude.{◌≡◌, ℕ, true, ℤ, pos, Option, Some, None}
use Rattle.dec_num.specs.declared.types.Mode.{Mode}
use Rattle.dec_num.specs.declared.types.Scaled.{Scaled}
use Rattle.dec_num.specs.Exact.{Fraction, near}
use Rattle.dec_num.specs.Scaled.{value_of}
use Rattle.cob_program.specs.Values.{negated, plus, product, exact_quotient, ◌>>=◌}
use Rattle.cob_runs.specs.Computing.{cut_quotient}
use Rattle.sum_ranges.specs.declared.ranged.Ranged.{Ranged}
use Rattle.sum_ranges.specs.Ranged.{IsIn, IsNarrower, IsOrdered}
use Rattle.transfer_ranges.specs.declared.amounts.Taken.{Taken}
use Rattle.transfer_ranges.specs.declared.amounts.AmountRange.{AmountRange}
use Rattle.transfer_ranges.specs.declared.amounts.AmountRange.TheVariants as range

abbrev pub taken : Ranged → Option Ranged → Taken
taken top under = record { top = top; under = under }

-- what n over d leaves, once the quotient is cut at a scale; nothing where d is 0
abbrev pub rest : ℕ → Scaled → Scaled → Option Scaled
rest scale n d = exact_quotient n d >>= λ q. Some (plus n (negated true (product d (cut_quotient scale q))))

-- the amount can be this value
abbrev pub IsAmount : AmountRange → Fraction → Type 0
IsAmount (range.Decimal r) v = (x : Scaled) × IsIn x r × (v ≡ value_of x)
IsAmount (range.Quotient top under) v = (n : Scaled) × (d : Scaled) × IsIn n top × IsIn d under × (exact_quotient n d ≡ Some v)
IsAmount (range.Remainder top under scale) v =
    (n : Scaled) × (d : Scaled) × (x : Scaled) × IsIn n top × IsIn d under × (rest scale n d ≡ Some x) × (v ≡ value_of x)

-- it can be one that is cut or rounded to so many units of a scale
abbrev pub IsNear : Mode → ℕ → AmountRange → ℤ → Type 0
IsNear mode scale a z = (v : Fraction) × IsAmount a v × (z ≡ near mode v (pos scale))

-- ---- narrower operands

abbrev pub IsNarrowerIfAny : Option Ranged → Option Ranged → Type 0
IsNarrowerIfAny None None = Unit {0}
IsNarrowerIfAny (Some a) (Some b) = IsNarrower a b
IsNarrowerIfAny _ _ = ⊥

pub record IsNarrowerTaken (a b : Taken) : Type 0 where
  pub top : IsNarrower a.top b.top
  pub under : IsNarrowerIfAny a.under b.under

-- the first is narrower than the second, or there is no first
abbrev pub IsNarrowerTakenIfAny : Option Taken → Option Taken → Type 0
IsNarrowerTakenIfAny None b = Unit {0}
IsNarrowerTakenIfAny (Some a) None = ⊥
IsNarrowerTakenIfAny (Some a) (Some b) = IsNarrowerTaken a b

abbrev pub IsNarrowerAmount : AmountRange → AmountRange → Type 0
IsNarrowerAmount (range.Decimal a) (range.Decimal b) = IsNarrower a b
IsNarrowerAmount (range.Quotient n d) (range.Quotient top under) = IsNarrower n top × IsNarrower d under
IsNarrowerAmount (range.Remainder n d j) (range.Remainder top under k) = IsNarrower n top × IsNarrower d under × (j ≡ k)
IsNarrowerAmount _ _ = ⊥

-- each range holds a number
abbrev pub IsOrderedAmount : AmountRange → Type 0
IsOrderedAmount (range.Decimal r) = IsOrdered r
IsOrderedAmount (range.Quotient top under) = IsOrdered top × IsOrdered under
IsOrderedAmount (range.Remainder top under scale) = IsOrdered top × IsOrdered under
