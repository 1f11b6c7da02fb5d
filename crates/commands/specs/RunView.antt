-- The code's tasks as plain data.
use Rattle.cob_program.specs.ActView.{plain_program}
use Rattle.command_words.specs.Words.{texts}
use Rattle.commands.specs.declared.running.task.Task as code_task
use Rattle.commands.specs.Runs.{Task, task}

abbrev pub plain_task : code_task.Task → Task
plain_task t = task (plain_program t.laid.program) t.laid.graph (texts t.paths.items) t.steps
