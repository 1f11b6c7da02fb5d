use Rattle.std.proofs.Common.{inl, inr}
use Rattle.batch_io.specs.FilesState.{known_bytes}
use Rattle.command_words.specs.Commands.{trial}
use Rattle.commands.specs.Call.{call}
use Rattle.commands.proofs.Trials.{ends_by_trial}
use Rattle.analyse_top.proofs.Endings.{answered_trial, answers_command, ends_found, trial_reads_nothing}
use Rattle.analyse_top.proofs.top.conclude_trial.Goals as goal

pub returns-in-Ok : goal.returns-in-Ok
returns-in-Ok g c =
    λ words said.
    inr (inr (inl (ends_by_trial words c.args.count (g.F.Files.state c.args.files.now) (g.F.Files.state c.tell.new.files)
    (g.O.Sink.state c.args.out.now) (g.O.Sink.state c.tell.new.out) c.tell.result said c.in-Ok.findings
    c.in-Ok.ensures.finding c.tell.ensures.ids c.tell.ensures.reading c.tell.ensures.ends)))

pub returns-in-Err : goal.returns-in-Err
returns-in-Err g c =
    let files = g.F.Files.state c.args.files.now in
    λ words said. inl (ends_found
    (call words files files (g.O.Sink.state c.args.out.now) (g.O.Sink.state c.show_found.new.out) c.show_found.result)
    c.in-Err.found (trial_reads_nothing files c.in-Err.found c.args.count c.in-Err.ensures.answer)
    (answers_command c.in-Err.found (known_bytes files) words (trial c.args.count) said
    (answered_trial c.in-Err.found c.args.count c.in-Err.ensures.answer)) c.show_found.ensures)
