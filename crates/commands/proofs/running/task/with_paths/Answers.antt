use Rattle.std.proofs.Common.{ap, string_bytes}
use Rattle.command_words.specs.Words.{lent_texts}
use Rattle.command_words.specs.Commands.{plain_run}
use Rattle.commands.proofs.Tasks.{is_task, blames_word}
use Rattle.commands.proofs.running.task.with_paths.Goals as goal

pub returns-in-Ok : goal.returns-in-Ok
returns-in-Ok c =
    let given = c.in-Ok.ensures in
    is_task c.args.bytes.now (plain_run c.args.said.now) c.args.laid c.requires
    c.get.result.now c.deref.result.now c.get.ensures (ap lent_texts c.deref.ensures.value)
    c.in-Ok.paths c.sources_can_be_run.ensures given.paths given.count given.distinct

pub returns-in-Err-Refused : goal.returns-in-Err-Refused
returns-in-Err-Refused c =
    blames_word c.args.bytes.now (plain_run c.args.said.now) c.args.laid c.requires
    c.get.result.now c.deref.result.now c.get.ensures (ap lent_texts c.deref.ensures.value)
    (string_bytes c.in-Err-Refused.word) (rw c.in-Err-Refused.field-0-is at c.in-Err-Refused.ensures.paths)
