use Rattle.std.proofs.Common.{Err, inl, refl}
use Rattle.command_words.specs.Words.{texts}
use Rattle.command_words.specs.Commands.{Command, IsCommand}
use Rattle.commands.specs.Answer.{Usage}
use Rattle.commands.specs.declared.answer.Stop.TheVariants.{Memory}
use Rattle.commands.specs.Call.{call}
use Rattle.analyse_top.specs.Answers.{first_word}
use Rattle.analyse_top.proofs.Endings.{ends_by_answer, ends_found, reads_nothing}
use Rattle.analyse_top.proofs.top.conclude.Goals as goal

pub returns-in-Ok-None : goal.returns-in-Ok-None
returns-in-Ok-None g c =
    let files = g.F.Files.state c.args.files.now in
    let words = texts c.args.words.now in
    let none : (said : Command) → IsCommand words said → ⊥ = rw c.in-Ok-None.field-0-is at c.in-Ok-None.ensures in
    inl (ends_by_answer
    (call words files files (g.O.Sink.state c.args.out.now) (g.O.Sink.state c.show_usage.new.out) c.show_usage.result)
    (reads_nothing files) (Usage (first_word words))
    (inl (none, refl)) c.show_usage.ensures)

pub returns-in-Err : goal.returns-in-Err
returns-in-Err g c =
    let files = g.F.Files.state c.args.files.now in
    inl (ends_found
    (call (texts c.args.words.now) files files
    (g.O.Sink.state c.args.out.now) (g.O.Sink.state c.show_found.new.out) c.show_found.result)
    (Err Memory) (reads_nothing files) tt c.show_found.ensures)
