-- The program of a source can be run.
use Rattle.std.proofs.Common.{ℕ, List, sym, subst}
use Rattle.cob_tree.specs.Stmt.{Tree}
use Rattle.cob_tree.specs.PrintFront.{print_front}
use Rattle.cob_data.specs.Layouts.{layout}
use Rattle.cob_program.specs.Act.{Program}
use Rattle.cob_well_formed.proofs.Layouts.{layouts_are_well_formed}
use Rattle.cob_well_formed.proofs.ShortValues.{short_left}
use Rattle.cob_well_formed.proofs.Statements.{can_do}
use Rattle.cob_well_formed.proofs.Typed.{programs_are_well_formed, programs_have_their_files}
use Rattle.cob_front.specs.Source.{StandsFor, IsTypedTree, data_of, program_of, IsSource}
use Rattle.cob_interp.specs.Able.{CanBeRun}
use Rattle.cob_well_formed.proofs.Tokens.{short_tree}

tree_can : (bytes : List ℕ) (t : Tree) → StandsFor bytes t → IsTypedTree t → CanBeRun (program_of t)
tree_can bytes t stands keeps =
    let short = short_tree bytes t stands in
    let formed = layouts_are_well_formed (data_of t) keeps.has_layout (short_left (print_front t.front) _ short) in
    record {
      items = formed.items;
      statements = can_do (layout (data_of t)) t formed.flags short keeps.rules;
      whole = programs_are_well_formed (layout (data_of t)) t stands.parsed.shaped keeps.rules;
      files = programs_have_their_files (layout (data_of t)) t stands.parsed.shaped keeps.rules;
    }

pub can_be_run : (bytes : List ℕ) (p : Program) → IsSource bytes p → CanBeRun p
can_be_run bytes p is = subst CanBeRun (sym is.program) (tree_can bytes is.tree is.stands is.keeps)
