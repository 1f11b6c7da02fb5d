use Rattle.cell_laws.proofs.Small.{edges_are_small_of_sources}
use Rattle.cell_laws.proofs.edge_sizes.edges_are_small_of_sources.Goals as goal

pub returns : goal.returns
returns c = edges_are_small_of_sources
