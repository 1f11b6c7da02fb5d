-- Which programs have a main copy, and so a count of nodes.
use Rattle.std.specs.Prelude.{◌<◌, ℕ, length, Contains}
use Rattle.cob_program.specs.Act.{Program}
use Rattle.cob_graph.specs.Laid.{LaidParas}
use Rattle.cob_graph.specs.Nesting.{Jump, IsNested, found_all}
use Rattle.cob_graph.specs.Graphs.{IsMainCopy, HasNodes}

-- each GO TO goes to a paragraph of the program
pub record HasTargets (p : Program) : Type 0 where
  pub within : (j : Jump) → Contains (found_all p).jumps j → j.to < length p.paras

abbrev pub NestedProgramsHaveMainCopies : Type 0
NestedProgramsHaveMainCopies = (p : Program) → IsNested p → HasTargets p → (copies : LaidParas) × IsMainCopy p copies

abbrev pub NestedProgramsHaveNodes : Type 0
NestedProgramsHaveNodes = (p : Program) → IsNested p → HasTargets p → (count : ℕ) × HasNodes p count
