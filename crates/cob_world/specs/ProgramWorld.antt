-- The world of a program's run, beside that program.
use Rattle.std.specs.Prelude.{◌≡◌, ℕ, List, length}
use Rattle.cob_program.specs.declared.program.Program.{Program}
use Rattle.cob_runs.specs.State.{World}
use Rattle.cob_store.specs.WellFormed.{HasWellFormedItems}

-- a program, and what a run of it works on
pub record ProgramWorld : Type 0 where
  pub program : Program
  pub world : World

-- The program's items fit, and storage is as long as its layout says.
pub record FitsProgram (p : Program) (storage : List ℕ) : Type 0 where
  pub sound : HasWellFormedItems p.layout
  pub whole : length storage ≡ p.layout.storage
