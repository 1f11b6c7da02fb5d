-- Typed programs are well-formed: their statements have what the grammar gives them, and are found by their numbers.
use Rattle.cob_tree.specs.Stmt.{Tree}
use Rattle.cob_tree.specs.Shaped.{Shaped}
use Rattle.cob_data.specs.declared.layout.Layout.{Layout}
use Rattle.cob_graph.specs.WellFormed.{IsWellFormed}
use Rattle.cob_typed.specs.Typing.{typed, IsTyped}

abbrev pub TypedProgramsAreWellFormed : Type 0
TypedProgramsAreWellFormed = (l : Layout) (t : Tree) → Shaped t → IsTyped l t → IsWellFormed (typed l t)
