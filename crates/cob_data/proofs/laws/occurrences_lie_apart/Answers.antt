use Rattle.cob_data.proofs.ExtentStarts.{strides_set_apart, tables_lie_within}
use Rattle.cob_data.proofs.laws.occurrences_lie_apart.Goals as goal

pub returns-clause-apart : goal.returns-clause-apart
returns-clause-apart c = strides_set_apart

pub returns-clause-within : goal.returns-clause-within
returns-clause-within c = tables_lie_within
