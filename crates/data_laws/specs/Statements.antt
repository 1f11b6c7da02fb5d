-- The list of a program's statements, against what is found by their numbers.
use Rattle.std.specs.Prelude.{◌≡◌, ◌⊎◌, ℕ, List, [], ◌∷◌, Some}
use Rattle.std.specs.List.{AllByRecursion}
use Rattle.cob_program.specs.Act.{Stmt, MkStmt, Act, Program}
use Rattle.cob_program.specs.Statements.{program_statements}
use Rattle.cob_runs.specs.Effects.{act_at}
use Rattle.cob_graph.specs.WellFormed.{IsWellFormed}

-- a statement of the list has this number and does this
abbrev pub IsIn : ℕ → Act → List Stmt → Type 0
IsIn n a [] = ⊥
IsIn n a (MkStmt m line b ∷ ss) = ((n ≡ m) × (b ≡ a)) ⊎ IsIn n a ss

-- the program finds it by its number
abbrev pub IsFound : Program → Stmt → Type 0
IsFound p (MkStmt n line a) = act_at p n ≡ Some a

-- What is found by a number stands in the list.
abbrev pub FoundIsListed : Type 0
FoundIsListed = (p : Program) (n : ℕ) (a : Act) → act_at p n ≡ Some a → IsIn n a (program_statements p)

-- Where statements are found by their numbers, all that stand in the list are.
abbrev pub ListedIsFound : Type 0
ListedIsFound = (p : Program) → IsWellFormed p → AllByRecursion (IsFound p) (program_statements p)
