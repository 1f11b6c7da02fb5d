-- Programs whose cells hold numbers that the arithmetic works with.
use Rattle.std.specs.Prelude.{Bool, true}
use Rattle.std.specs.List.{list_all}
use Rattle.cob_data.specs.declared.layout.Layout.{Layout}
use Rattle.cob_program.specs.Bounds.{is_small}
use Rattle.cob_program.specs.Act.{Program}
use Rattle.cob_calc.specs.Contents.{bound_at}
use Rattle.cob_graph.specs.declared.homes.Home.{Home}
use Rattle.cob_graph.specs.declared.homes.Home.TheVariants.{Item as of_item, Count as of_count}
use Rattle.cob_graph.specs.Homes.{homes_of}

-- a counter has 18 digits
abbrev pub is_small_home : Layout → Home → Bool
is_small_home l (of_item place) = is_small (bound_at l place)
is_small_home l (of_count statement) = true

-- Each item that has a cell is small.
abbrev pub has_small_cells : Program → Bool
has_small_cells p = list_all (is_small_home p.layout) (homes_of p)
