use Rattle.std.proofs.Common.{subst, sym}
use Rattle.command_words.specs.Commands.{plain_run}
use Rattle.commands.specs.RunSteps.{IsNoTask}
use Rattle.commands.proofs.Tasks.{no_task}
use Rattle.commands.proofs.running.task.task_in.Goals as goal

pub returns-in-Err : goal.returns-in-Err
returns-in-Err c =
    let names = (plain_run c.args.said.now).names in
    subst (IsNoTask c.args.bytes.now names) (sym c.answer_to.ensures)
    (no_task c.args.bytes.now names c.in-Err.cause c.in-Err.ensures)
