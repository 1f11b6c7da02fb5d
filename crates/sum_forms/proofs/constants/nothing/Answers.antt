use Rattle.sum_forms.proofs.Working.{nothing_is}
use Rattle.sum_forms.proofs.constants.nothing.Goals as goal

pub returns-clause-value : goal.returns-clause-value
returns-clause-value c = nothing_is
