-- Cells that a part leaves nothing known of.
use Rattle.std.specs.Prelude.{◌&&◌, ◌||◌, not, Bool}
use Rattle.cob_data.specs.declared.layout.Layout.{Layout}
use Rattle.cob_graph.specs.declared.homes.Home.{Home}
use Rattle.cob_graph.specs.declared.homes.Home.TheVariants.{Item as of_item}
use Rattle.cob_graph.specs.Homes.{is_home}
use Rattle.cell_steps.specs.Cells.{is_in_extent, is_beside}
use Rattle.diff_layer.specs.declared.pack.gone.Gone.{Gone}
use Rattle.diff_layer.specs.declared.pack.gone.Gone.TheVariants.{Others, Lost, Bytes}

abbrev pub is_gone : Layout → Gone → Home → Bool
is_gone l (Others place) h = is_beside l place h && not (is_home h (of_item place))
is_gone l (Lost place) h = is_home h (of_item place) || is_beside l place h
is_gone l (Bytes extent) h = is_in_extent l extent h
