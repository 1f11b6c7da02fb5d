use Rattle.std.proofs.Common.{inl, inr}
use Rattle.batch_io.specs.FilesState.{known_bytes}
use Rattle.cob_interp.specs.Runs.{outside}
use Rattle.command_words.specs.Commands.{plain_run, run}
use Rattle.commands.specs.Call.{call}
use Rattle.commands.specs.Runs.{AnswersRun, BlamesIfUsage}
use Rattle.commands.specs.RunView.{plain_task}
use Rattle.commands.proofs.RunEnds.{asks_for, runs_behind}
use Rattle.analyse_top.proofs.Endings.{answers_command, ends_found, found_or_not}
use Rattle.analyse_top.proofs.top.conclude_run.Goals as goal

pub returns-in-Ok : goal.returns-in-Ok
returns-in-Ok g c =
    let t = plain_task c.in-Ok.task in
    let files = g.F.Files.state c.args.files.now in
    let middle = g.F.Files.state c.task_for.new.files in
    let after = outside (g.F.Files.state c.run.new.files) (g.O.Sink.state c.run.new.out) in
    λ words said. inr (inr (inr (
      t,
      c.run.ensures.0,
      asks_for (known_bytes files) words (plain_run c.args.said.now) t said c.in-Ok.ensures.holds,
      runs_behind t files middle (g.O.Sink.state c.args.out.now) after c.run.ensures.0 c.run.result
          c.in-Ok.ensures.reads c.run.ensures.1,
    )))

pub returns-in-Err : goal.returns-in-Err
returns-in-Err g c =
    let files = g.F.Files.state c.args.files.now in
    let r = plain_run c.args.said.now in
    λ words said. inl (ends_found
    (call words files (g.F.Files.state c.task_for.new.files)
    (g.O.Sink.state c.args.out.now) (g.O.Sink.state c.show_found.new.out) c.show_found.result)
    c.in-Err.found c.in-Err.ensures.reads
    (answers_command c.in-Err.found (known_bytes files) words (run r) said
    (found_or_not (λ contents answer. AnswersRun contents r answer) (BlamesIfUsage r) c.in-Err.found (known_bytes files)
    c.in-Err.ensures.answer c.in-Err.ensures.blames)) c.show_found.ensures)
