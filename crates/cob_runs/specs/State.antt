-- How a run stands: what it works on, what it has still to do, and its outcome.
use Rattle.std.specs.Prelude.{ℕ, Bool, List, [], ◌∷◌, ◌++◌, Option, ℤ}
use Rattle.cob_program.specs.Act.{Stmts, Body, Turns}
use Rattle.cob_runs.specs.declared.outcome.Outcome.{Outcome}
use Rattle.cob_runs.specs.declared.outcome.Outcome.TheVariants.{Going}
use Rattle.cob_runs.specs.Files.{File}

-- Storage; the count of each PERFORM with TIMES, by its statement's number, if it has one; the files; the text that is
-- shown.
pub record World : Type 0 where
  pub storage : List ℕ
  pub counts : List (Option ℤ)
  pub files : List File
  pub shown : List ℕ

-- What is still to be done: the statements left of a list; paragraphs from one to another; the test or the augmenting of
-- a loop, with its statement's number.
pub data Doing : Type 0 where
  rest : Stmts → Doing
  paras : ℕ → ℕ → Doing
  testing : ℕ → Body → Turns → Doing
  augmenting : ℕ → Body → Turns → Doing

pub record State : Type 0 where
  pub world : World
  pub control : List Doing
  pub outcome : Outcome

abbrev pub state : World → List Doing → Outcome → State
state w ds o = record { world = w; control = ds; outcome = o }

abbrev pub going : World → List Doing → State
going w ds = state w ds Going

-- ---- the world with one part of it new

abbrev pub with_storage : World → List ℕ → World
with_storage w storage = record { storage = storage; counts = w.counts; files = w.files; shown = w.shown }

abbrev pub with_counts : World → List (Option ℤ) → World
with_counts w counts = record { storage = w.storage; counts = counts; files = w.files; shown = w.shown }

abbrev pub with_files : World → List File → World
with_files w files = record { storage = w.storage; counts = w.counts; files = files; shown = w.shown }

abbrev pub with_shown : World → List ℕ → World
with_shown w text = record { storage = w.storage; counts = w.counts; files = w.files; shown = w.shown ++ text }
