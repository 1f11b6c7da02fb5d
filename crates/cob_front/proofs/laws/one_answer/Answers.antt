use Rattle.cob_front.proofs.OneAnswer.{one_answer}
use Rattle.cob_front.proofs.laws.one_answer.Goals as goal

pub returns : goal.returns
returns c = one_answer
