-- Typing gives what those need that do a program's statements.
use Rattle.cob_tree.specs.Stmt.{Tree}
use Rattle.cob_data.specs.declared.layout.Layout.{Layout}
use Rattle.cob_typed.specs.Typing.{typed, IsTyped}
use Rattle.cob_world.specs.Doing.{CanDoProgram}
use Rattle.cob_well_formed.specs.Numerals.{HasShortNumerals}
use Rattle.cob_well_formed.specs.Layouts.{HasWellFormedFlags}

abbrev pub TypedStatementsCanBeDone : Type 0
TypedStatementsCanBeDone = (l : Layout) (t : Tree) → HasWellFormedFlags l → HasShortNumerals t → IsTyped l t → CanDoProgram (typed l t)
