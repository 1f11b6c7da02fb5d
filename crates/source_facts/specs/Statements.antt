-- The numbers of a program's statements.
use Rattle.std.specs.Prelude.{ℕ, List}
use Rattle.cob_program.specs.Act.{Program}
use Rattle.cob_front.specs.Source.{IsSource}
use Rattle.graph_runs.specs.Sources.{StatementsAreCounted}
pub use Rattle.graph_runs.specs.Sources.{number_of, AreNumberedInOrder}

abbrev pub SourcesNumberStatements : Type 0
SourcesNumberStatements = (bytes : List ℕ) (p : Program) → IsSource bytes p → AreNumberedInOrder p

-- What is found by a number is one of the numbered statements.
abbrev pub SourcesCountStatements : Type 0
SourcesCountStatements = (bytes : List ℕ) (p : Program) → IsSource bytes p → StatementsAreCounted p
