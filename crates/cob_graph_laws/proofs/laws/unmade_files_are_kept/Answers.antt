use Rattle.cob_graph_laws.proofs.Simulated.{simulates}
use Rattle.cob_graph_laws.proofs.Kept.{keeps_unmade}
use Rattle.cob_graph_laws.proofs.laws.unmade_files_are_kept.Goals as goal

pub returns : goal.returns
returns c = keeps_unmade simulates
