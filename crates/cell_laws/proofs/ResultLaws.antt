-- Laws of results and of guards, as the walk takes them.
use Rattle.std.specs.Prelude.{◌≡◌, ℕ, ◌≤ℤ◌, Bool, true, IfSome}
use Rattle.dec_num.specs.declared.types.Mode.{Mode}
use Rattle.interval_domain.specs.declared.bounds.Interval.{Interval}
use Rattle.cob_data.specs.declared.layout.Layout.{Layout}
use Rattle.cob_program.specs.declared.act.How.{How}
use Rattle.cob_program.specs.Logic.{Test}
use Rattle.cob_edge_parts.specs.Parts.{Amount}
use Rattle.sum_ranges.specs.declared.ranged.Ranged.{Ranged}
use Rattle.sum_ranges.specs.Ranged.{IsNarrower, IsOrdered}
use Rattle.transfer_ranges.specs.declared.amounts.Taken.{Taken}
use Rattle.transfer_ranges.specs.declared.amounts.AmountRange.{AmountRange}
use Rattle.transfer_ranges.specs.declared.amounts.Receiver.{Receiver}
use Rattle.transfer_ranges.specs.Amounts.{IsNarrowerTaken, IsNarrowerTakenIfAny, IsNarrowerAmount}
use Rattle.transfer_ranges.specs.Operands.{computed_range}
use Rattle.transfer_ranges.specs.Stores.{operands}
use Rattle.transfer_ranges.specs.Results.{IsLeastIfAny, IsKept, IsInside, IsInsideIfAny}
use Rattle.transfer_ranges.specs.ResultRanges.{fitted, exceeds, result_range, may_fail}
use Rattle.transfer_ranges.specs.Guards.{guarded}
use Rattle.transfer_ranges.specs.Counts.{count_kept}
use Rattle.transfer_ranges.specs.Meaning.{CutsFit, CutsBelow, Knows}

pub record Given : Type 0 where
  pub operands_ : (narrow wide : ℕ → Ranged) → ((place : ℕ) → IsNarrower (narrow place) (wide place)) → (a : Amount) → IsNarrowerTakenIfAny (operands narrow a) (operands wide a)
  pub computed_ : (how : How) (own wider : Ranged) (t u : Taken) → IsNarrower own wider → IsNarrowerTaken t u → IsNarrowerAmount (computed_range how own t) (computed_range how wider u)
  pub results_ : (mode : Mode) (r : Receiver) (a b : AmountRange) → IsNarrowerAmount a b → IsInsideIfAny (result_range mode r a) (result_range mode r b)
  pub fails_ : (mode : Mode) (r : Receiver) (a b : AmountRange) → IsNarrowerAmount a b → may_fail mode r a ≡ true → may_fail mode r b ≡ true
  pub fitted_ : (r : Receiver) (i j : Interval) → IsInside i j → IsInsideIfAny (fitted r i) (fitted r j)
  pub exceeds_ : (digits : ℕ) (i j : Interval) → IsInside i j → exceeds digits i ≡ true → exceeds digits j ≡ true
  pub kept_ : (r : Receiver) (i : Interval) → IsLeastIfAny (IsKept r i) (fitted r i)
  pub guards_ : (l : Layout) (narrow : ℕ → Ranged) (more : ℕ → Bool) (wide : ℕ → Ranged) (fewer : ℕ → Bool) → Knows narrow more wide fewer →
      (t : Test) (wanted : Bool) → CutsBelow (guarded l narrow more t wanted) (guarded l wide fewer t wanted)
  pub cuts_ : (l : Layout) (range : ℕ → Ranged) (is_numeric : ℕ → Bool) → ((place : ℕ) → IsOrdered (range place)) →
      (t : Test) (wanted : Bool) → IfSome (guarded l range is_numeric t wanted) (CutsFit range)
  pub counts_ : (wanted : Bool) (i j : Interval) → IsInside i j → IsInsideIfAny (count_kept wanted i) (count_kept wanted j)
  pub counts_fit_ : (wanted : Bool) (i : Interval) → IfSome (count_kept wanted i) (λ j. IsInside j i × (j.low ≤ℤ j.high))
