use Rattle.std.proofs.Common.{◌≡◌, false, inl, inr}
use Rattle.batch_io.specs.FilesState.{known_bytes}
use Rattle.command_words.specs.Commands.{analyse}
use Rattle.commands.specs.Answer.{Answer, AnswersSource, is_usage}
use Rattle.commands.specs.Call.{call}
use Rattle.commands.proofs.Telling.{ends_by_analysis}
use Rattle.analyse_top.proofs.Endings.{answers_command, ends_found, found_or_not}
use Rattle.analyse_top.proofs.top.conclude_analysis.Goals as goal

pub returns-in-Ok : goal.returns-in-Ok
returns-in-Ok g c =
    λ words said.
    inr (inl (ends_by_analysis words c.args.source.now c.args.certificate.now (g.F.Files.state c.args.files.now)
    (g.F.Files.state c.findings_for.new.files) (g.F.Files.state c.tell.new.files) (g.O.Sink.state c.args.out.now)
    (g.O.Sink.state c.tell.new.out) c.tell.result said c.in-Ok.ensures.reads c.in-Ok.findings c.in-Ok.ensures.finding
    c.tell.ensures.ids c.tell.ensures.reading c.tell.ensures.ends))

pub returns-in-Err : goal.returns-in-Err
returns-in-Err g c =
    let files = g.F.Files.state c.args.files.now in
    λ words said. inl (ends_found
    (call words files (g.F.Files.state c.findings_for.new.files)
    (g.O.Sink.state c.args.out.now) (g.O.Sink.state c.show_found.new.out) c.show_found.result)
    c.in-Err.found c.in-Err.ensures.reads
    (answers_command c.in-Err.found (known_bytes files) words (analyse c.args.source.now c.args.certificate.now) said
    (found_or_not (λ contents answer. AnswersSource contents c.args.source.now answer) (λ (a : Answer). is_usage a ≡ false)
    c.in-Err.found (known_bytes files) c.in-Err.ensures.answer c.in-Err.ensures.usage)) c.show_found.ensures)
