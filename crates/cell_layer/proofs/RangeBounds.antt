-- Items' ranges lie within the bounds of their pictures.
use Rattle.std.proofs.Common.{List}
use Rattle.cob_program.specs.Act.{Program}
use Rattle.cob_runs.specs.Contents.{form_at}
use Rattle.cob_calc.specs.Contents.{bound_at}
use Rattle.sum_ranges.specs.Working.{AreBounded}
use Rattle.interval_domain.specs.Known.{Known}
use Rattle.interval_domain.specs.Elements.{CellsFit}
use Rattle.cob_graph.specs.declared.homes.Home.TheVariants.{Item as of_item}
use Rattle.cob_graph.specs.Homes.{homes_of}
use Rattle.cell_steps.specs.OwnRanges.{owns}
use Rattle.cell_steps.specs.Cells.{units_of}
use Rattle.cell_steps.specs.Stores.{range_at}
use Rattle.cell_laws.proofs.ItemRanges.{units_fit}
use Rattle.cell_layer.proofs.ShortBounds.{form_within}

pub ranges_are_bounded : (p : Program) (cells : List Known) → CellsFit (owns p) cells → AreBounded (range_at p cells) (bound_at p.layout)
ranges_are_bounded p cells fits = record {
  held = λ place.
      form_within (form_at p.layout place) (units_of p.layout (homes_of p) cells (of_item place))
      (units_fit p.layout (homes_of p) cells (of_item place) fits);
}
