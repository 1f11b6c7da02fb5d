use Rattle.std.proofs.Common.{◌≡◌, map, take}
use Rattle.cob_graph.specs.Homes.{cell_of_home}
use Rattle.cob_graph_build.proofs.cells.cells_of_homes.Given as goal

abbrev pub invariant-loop-home : goal.invariant-loop-home
invariant-loop-home l = l.cells.items ≡ map (cell_of_home l.layout) (take l.home-index l.homes)
