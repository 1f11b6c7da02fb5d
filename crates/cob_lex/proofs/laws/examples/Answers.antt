use Rattle.cob_lex.proofs.TextExamples.{are_read, are_refused}
use Rattle.cob_lex.proofs.laws.examples.Goals as goal

pub returns : goal.returns
returns c = record { read = are_read; refused = are_refused }
