-- The cells of a source's program have at most 18 digits, and their own ranges are those of its homes.
use Rattle.std.proofs.Common.{◌≡◌, ℕ, suc, ◌≤◌, nat_le, Bool, true, false, if◌then◌else◌, List, [], ◌∷◌, ◌++◌, map, length, Option, Some, None, ℤ, refl, sym, ap, ◌∙◌, subst, arith}
use Rattle.std.specs.Prelude.{Vec}
use Rattle.std.specs.List.{All, AllByRecursion}
use Rattle.std.specs.declared.alloc.Global.{Global}
use Rattle.std.proofs.Props.{props}
use Rattle.std.proofs.Math.Logic.{∥∥₁_elim}
use Rattle.std.proofs.lemmas.List.{length-map}
use Rattle.std.proofs.lemmas.List.Elements.{All-from_recursion, recursion_from_All}
use Rattle.cob_program.specs.Act.{Program}
use Rattle.cob_runs.specs.declared.action.Cell.{Cell}
use Rattle.cob_graph.specs.declared.graph.Graph.{Graph}
use Rattle.cob_graph.specs.Graphs.{cells_of}
use Rattle.interval_domain.specs.declared.bounds.Interval.{Interval}
use Rattle.graph_runs.specs.Sources.{IsSourceGraph}
use Rattle.cell_steps.specs.OwnRanges.{own_range, owns}
use Rattle.cell_laws.proofs.Homes.{homes_have_own_ranges}
use Rattle.interval_domain.specs.Elements.{AreThresholds}
use Rattle.interval_domain.specs.Rows.{lists_of}
use Rattle.cell_ranges.specs.Ranges.{IsShort, ends_of}
use Rattle.cell_ranges.proofs.CellSizes.{cells_are_within, each_within}

module _ (p : Program) (g : Graph) (source : ∥ IsSourceGraph p g ∥₁) where
  pub graph_cells_short : All IsShort g.cells
  graph_cells_short =
      ∥∥₁_elim source (hlevel props) (λ (s : IsSourceGraph p g).
      subst (All IsShort) (sym s.graph.cells) (All-from_recursion IsShort (cells_of p)
      (each_within IsShort (λ c is. is.0) (cells_of p) (cells_are_within p s.whole s.items.items))))

  pub graph_ranges : map own_range g.cells ≡ owns p
  graph_ranges =
      ∥∥₁_elim source (hlevel props) (λ (s : IsSourceGraph p g).
      ap (map own_range) s.graph.cells ∙ sym (homes_have_own_ranges p))

  pub range_count : length (owns p) ≡ length g.cells
  range_count = sym (ap length graph_ranges) ∙ length-map g.cells own_range

  pub cell_count : length g.cells ≡ length (cells_of p)
  cell_count = ∥∥₁_elim source (hlevel props) (λ (s : IsSourceGraph p g). ap length s.graph.cells)

-- two ends are thresholds of a range
pub ends_are_thresholds : (ranges : List Interval) → AreThresholds ranges (map ends_of ranges)
ends_are_thresholds [] = tt
ends_are_thresholds (own ∷ ranges) = (record { some = omega arith; first = refl; last = refl }, ends_are_thresholds ranges)

pub thresholds_of : (p : Program) (ranges : List Interval) (lists : List (List ℤ)) → ranges ≡ owns p → lists ≡ map ends_of ranges →
    AreThresholds (owns p) lists
thresholds_of p ranges lists same are =
    subst (λ (os : List Interval). AreThresholds os lists) same
    (subst (AreThresholds ranges) (sym are) (ends_are_thresholds ranges))

two_each : (ends : List (Vec ℤ Global)) (ranges : List Interval) → lists_of ends ≡ map ends_of ranges →
    AllByRecursion (λ (list : Vec ℤ Global). length list.items ≤ 128) ends
two_each [] ranges e = tt
two_each (list ∷ ends) [] e = absurd (cc e)
two_each (list ∷ ends) (own ∷ ranges) e =
    let first : list.items ≡ ends_of own = cc e in
    let count : length list.items ≡ 2 = ap length first in
    let rest : lists_of ends ≡ map ends_of ranges = cc e in
    (omega (arith, count), two_each ends ranges rest)

pub lists_are_short : (ends : List (Vec ℤ Global)) (ranges : List Interval) → lists_of ends ≡ map ends_of ranges →
    All (λ (list : Vec ℤ Global). length list.items ≤ 128) ends
lists_are_short ends ranges e = All-from_recursion (λ (list : Vec ℤ Global). length list.items ≤ 128) ends (two_each ends ranges e)
