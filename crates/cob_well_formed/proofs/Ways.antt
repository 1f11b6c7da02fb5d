-- The programs of sources are well-formed, and their runs are ways through their graphs.
use Rattle.std.proofs.Common.{ℕ, List, sym, subst}
use Rattle.cob_data.specs.Layouts.{layout}
use Rattle.cob_program.specs.Act.{Program}
use Rattle.cob_graph.specs.declared.graph.Graph.{Graph}
use Rattle.cob_graph.specs.Graphs.{IsGraph}
use Rattle.cob_graph.specs.WellFormed.{IsWellFormed}
use Rattle.cob_graph_laws.specs.Ways.{IsSimulated}
use Rattle.cob_graph_laws.proofs.Simulated.{simulates}
use Rattle.cob_well_formed.proofs.Typed.{programs_are_well_formed}
use Rattle.cob_front.specs.Source.{IsSource, data_of}

is_well_formed : (bytes : List ℕ) (p : Program) → IsSource bytes p → IsWellFormed p
is_well_formed bytes p is = subst IsWellFormed (sym is.program) (programs_are_well_formed (layout (data_of is.tree)) is.tree is.stands.parsed.shaped is.keeps.rules)

pub runs_are_ways : (bytes : List ℕ) (p : Program) (g : Graph) → IsSource bytes p → IsGraph p g → IsSimulated p g
runs_are_ways bytes p g is graph = simulates p g (is_well_formed bytes p is) graph
