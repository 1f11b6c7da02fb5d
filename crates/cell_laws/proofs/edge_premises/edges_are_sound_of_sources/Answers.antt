use Rattle.cell_laws.proofs.Edges.{edges_are_sound_of_sources}
use Rattle.cell_laws.proofs.edge_premises.edges_are_sound_of_sources.Goals as goal

pub returns : goal.returns
returns c = edges_are_sound_of_sources
