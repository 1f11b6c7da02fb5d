-- Ranges of counters, and the constant by which one is lowered.
use Rattle.std.proofs.Common.{◌≡◌, ℕ, List, refl, subst, sym, arith}
use Rattle.cob_program.specs.Act.{Program}
use Rattle.sum_ranges.specs.declared.ranged.Ranged.{Ranged}
use Rattle.sum_ranges.specs.Ranged.{ranged}
use Rattle.sum_ranges.specs.Sizes.{IsSmallRange}
use Rattle.interval_domain.specs.Known.{Known}
use Rattle.interval_domain.specs.Elements.{CellsFit}
use Rattle.cob_graph.specs.declared.homes.Home.TheVariants.{Count as of_count}
use Rattle.cob_graph.specs.Homes.{homes_of}
use Rattle.cell_steps.specs.OwnRanges.{owns}
use Rattle.cell_steps.specs.Cells.{units_of}
use Rattle.cell_layer.proofs.CounterRanges.{count_is_small, count_is_ordered}

pub count_small : (p : Program) (cells : List Known) (statement : ℕ) (r : Ranged) → CellsFit (owns p) cells →
    r ≡ ranged (units_of p.layout (homes_of p) cells (of_count statement)) 0 → IsSmallRange r
count_small p cells statement r fits is =
    let i = units_of p.layout (homes_of p) cells (of_count statement) in
    let ends = count_is_small p cells statement i fits refl in
    subst IsSmallRange (sym is) (record {
      units = record { ordered = count_is_ordered p cells statement i fits refl; low = ends.0; high = ends.1 };
      scale = omega arith;
    })
