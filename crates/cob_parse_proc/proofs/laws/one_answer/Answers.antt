use Rattle.cob_parse_proc.proofs.OneAnswer.{one_answer}
use Rattle.cob_parse_proc.proofs.laws.one_answer.Goals as goal

pub returns : goal.returns
returns c = one_answer
