-- What the interpreter asks of a program, which each source's program has.
use Rattle.std.specs.Prelude.{◌≡◌, ◌<◌, ℕ, length, Some}
use Rattle.std.specs.List.{AllByRecursion}
use Rattle.cob_data.specs.declared.layout.Layout.{Layout}
use Rattle.cob_program.specs.Act.{Act, open_files, close_files, read, Program}
use Rattle.cob_runs.specs.Effects.{act_at}
use Rattle.cob_graph.specs.WellFormed.{IsWellFormed}
use Rattle.cob_store.specs.WellFormed.{HasWellFormedItems}
use Rattle.cob_world.specs.Doing.{CanDoProgram}

-- OPEN, CLOSE and READ name files of the layout
abbrev pub NamesFiles : Layout → Act → Type 0
NamesFiles l (open_files os) = AllByRecursion (λ o. o.file < length l.files) os
NamesFiles l (close_files fs) = AllByRecursion (λ f. f < length l.files) fs
NamesFiles l (read f into end fine) = f < length l.files
NamesFiles l _ = Unit {0}

-- Each statement that is found by its number names files of the layout.
pub record HasItsFiles (p : Program) : Type 0 where
  pub named : (number : ℕ) (a : Act) → act_at p number ≡ Some a → NamesFiles p.layout a

pub record CanBeRun (p : Program) : Type 0 where
  -- items and record areas lie within storage, and an item's bytes are those of its form
  pub items : HasWellFormedItems p.layout
  -- sums keep the rule of bounds, and values can be moved where they go
  pub statements : CanDoProgram p
  -- conditions begin with a simple condition, OPEN and CLOSE name a file, WRITE a file's record, and each statement is
  -- found by its number
  pub whole : IsWellFormed p
  -- the files that are named are declared
  pub files : HasItsFiles p
