-- What is known of counters is small, and some number is left of it.
use Rattle.std.proofs.Common.{◌≡◌, ◌∙◌, ◌-◌, ◌^◌, ℕ, Bool, true, false, if◌then◌else◌, List, Option, Some, None, ◌≤ℤ◌, refl, sym, subst, arith}
use Rattle.std.specs.Prelude.{int_le, IfSome, option_map}
use Rattle.interval_domain.specs.declared.bounds.Interval.{Interval}
use Rattle.interval_domain.specs.Bounds.{IsSmall}
use Rattle.cob_program.specs.Act.{Program}
use Rattle.transfer_ranges.specs.ResultRanges.{meeting, plus_minus, most, kept_range, count_range}
use Rattle.transfer_ranges.specs.Counts.{count_kept}
use Rattle.transfer_ranges.specs.Kept.{IsPartOf}
use Rattle.transfer_ranges.proofs.Least.{test_le}
use Rattle.transfer_ranges.proofs.CountLaws.{count_part}
use Rattle.interval_domain.specs.Known.{Known, IsOrdered}
use Rattle.interval_domain.specs.Elements.{CellsFit}
use Rattle.cob_graph.specs.declared.homes.Home.TheVariants.{Count as of_count}
use Rattle.cob_graph.specs.Homes.{homes_of}
use Rattle.cell_steps.specs.OwnRanges.{owns}
use Rattle.cell_steps.specs.Cells.{units_of}
use Rattle.cell_laws.proofs.ItemRanges.{units_fit}
use Rattle.cell_layer.proofs.ShortBounds.{signed_ends}

pub count_is_ordered : (p : Program) (cells : List Known) (statement : ℕ) (i : Interval) → CellsFit (owns p) cells →
    i ≡ units_of p.layout (homes_of p) cells (of_count statement) → IsOrdered (Some i)
count_is_ordered p cells statement i fits is =
    subst (λ (j : Interval). j.low ≤ℤ j.high) (sym is) (units_fit p.layout (homes_of p) cells (of_count statement) fits).1

pub count_is_small : (p : Program) (cells : List Known) (statement : ℕ) (i : Interval) → CellsFit (owns p) cells →
    i ≡ units_of p.layout (homes_of p) cells (of_count statement) → IsSmall i.low × IsSmall i.high
count_is_small p cells statement i fits is =
    let j = units_of p.layout (homes_of p) cells (of_count statement) in
    let k = units_fit p.layout (homes_of p) cells (of_count statement) fits in
    let ends = signed_ends (10 ^ 18 - 1) j.low j.high k.0 k.1 k.2 in
    subst (λ (h : Interval). IsSmall h.low × IsSmall h.high) (sym is) (omega (arith, ends), omega (arith, ends))

-- ---- what is left

pub kept_is_ordered : (wanted : Bool) (count i : Interval) (o : Option Interval) → o ≡ count_kept wanted count → o ≡ Some i → IsOrdered (Some i)
kept_is_ordered wanted count i o is some =
    (subst (λ (q : Option Interval). IfSome q (λ j. IsPartOf j count)) (sym is ∙ some) (count_part wanted count)).ordered

counted_ordered : (i : Interval) → IfSome (count_range i) (λ j. j.low ≤ℤ j.high)
counted_ordered i = go (int_le m.low m.high) refl
  where
    m : Interval
    m = meeting i (plus_minus (most 18))

    go : (some : Bool) → int_le m.low m.high ≡ some → IfSome (option_map (kept_range true) (if some then Some m else None)) (λ j. j.low ≤ℤ j.high)
    go true e = test_le m.low m.high e
    go false e = tt

pub counted_is_ordered : (units i : Interval) (o : Option Interval) → o ≡ count_range units → o ≡ Some i → IsOrdered (Some i)
counted_is_ordered units i o is some =
    subst (λ (q : Option Interval). IfSome q (λ j. j.low ≤ℤ j.high)) (sym is ∙ some) (counted_ordered units)
