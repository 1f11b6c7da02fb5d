-- What the parts of a run do.
use Rattle.std.specs.Prelude.{◌≡◌, ℕ, List, length, Result, Ok, Err}
use Rattle.cob_program.specs.ActView.{plain_program}
use Rattle.cob_graph.specs.Graphs.{IsGraph}
use Rattle.cob_interp.specs.Able.{CanBeRun}
use Rattle.command_words.specs.Words.{texts}
use Rattle.command_words.specs.Commands.{Run}
use Rattle.cob_interp.specs.Told.{AreDistinct}
use Rattle.commands.specs.declared.answer.Stop.{Stop}
use Rattle.commands.specs.declared.answer.Stop.TheVariants.{Memory}
use Rattle.commands.specs.Profile.{IsProfileCause}
use Rattle.commands.specs.Answer.{Answer, Usage, Refused}
use Rattle.commands.specs.declared.running.task.Task as code_task
use Rattle.commands.specs.Runs.{Makes, BlamesWord}
use Rattle.commands.specs.RunView.{plain_task}

-- what the interpreter asks for
pub record IsReady (t : code_task.Task) : Type 0 where
  pub graph : IsGraph (plain_program t.laid.program) t.laid.graph
  pub can : CanBeRun (plain_program t.laid.program)
  pub count : length t.paths.items ≡ length t.laid.program.layout.files
  pub distinct : AreDistinct (texts t.paths.items)

-- the task that the bytes make, ready to be run
pub record IsTask (bytes : List ℕ) (r : Run) (t : code_task.Task) : Type 0 where
  pub makes : Makes bytes r (plain_task t)
  pub ready : IsReady t

-- why the bytes make no task, or want of memory
abbrev pub IsNoTask : List ℕ → List (List ℕ) → Result Answer Stop → Type 0
IsNoTask bytes names (Ok (Refused cause)) = IsProfileCause bytes cause
IsNoTask bytes names (Ok (Usage word)) = BlamesWord bytes names word
IsNoTask bytes names (Ok _) = ⊥
IsNoTask bytes names (Err stop) = stop ≡ Memory
