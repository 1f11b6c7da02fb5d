use Rattle.std.proofs.Common.{◌≡◌, false, inl}
use Rattle.batch_io.specs.FilesState.{known_bytes}
use Rattle.command_words.specs.Commands.{check}
use Rattle.commands.specs.CheckAnswers.{AnswersCheck}
use Rattle.commands.specs.Answer.{Answer, is_usage}
use Rattle.commands.specs.Call.{call}
use Rattle.analyse_top.proofs.Endings.{answers_command, ends_found, found_or_not}
use Rattle.analyse_top.proofs.top.conclude_check.Goals as goal

pub returns : goal.returns
returns g c =
    let files = g.F.Files.state c.args.files.now in
    λ words said. inl (ends_found
    (call words files (g.F.Files.state c.check-found.new.files)
    (g.O.Sink.state c.args.out.now) (g.O.Sink.state c.show_found.new.out) c.show_found.result)
    c.check-found.result c.check-found.ensures.reads
    (answers_command c.check-found.result (known_bytes files) words (check c.args.source.now c.args.certificate.now) said
    (found_or_not (λ contents answer. AnswersCheck contents c.args.source.now c.args.certificate.now answer)
    (λ (a : Answer). is_usage a ≡ false) c.check-found.result (known_bytes files) c.check-found.ensures.answer
    c.check-found.ensures.usage)) c.show_found.ensures)
