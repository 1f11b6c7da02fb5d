use Rattle.analyse_core.proofs.Evaluating.{plain_assigns}
use Rattle.analyse_core.proofs.laws.plain_evaluation_assigns.Goals as goal

pub returns : goal.returns
returns c = plain_assigns
