use Rattle.command_words.proofs.Counts.{number_read}
use Rattle.command_words.proofs.number.number_of.Goals as goal

pub returns-in-Err : goal.returns-in-Err
returns-in-Err c = λ value h. absurd
    (cc (number_read c.args.word.now c.parse.result value c.parse.ensures.value.0 h, c.in-Err.is))
