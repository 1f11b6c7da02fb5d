use Rattle.cob_typed.proofs.RuleNumbers.{told_apart}
use Rattle.cob_typed.proofs.laws.rules_are_told_apart.Goals as goal

pub returns : goal.returns
returns c = told_apart
