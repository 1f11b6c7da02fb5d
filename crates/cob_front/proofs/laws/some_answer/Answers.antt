use Rattle.cob_front.proofs.SomeAnswer.{some_answer}
use Rattle.cob_front.proofs.laws.some_answer.Goals as goal

pub returns : goal.returns
returns c = some_answer
