use Rattle.cob_well_formed.proofs.Statements.{can_do}
use Rattle.cob_well_formed.proofs.laws.typed_statements_can_be_done.Goals as goal

pub returns : goal.returns
returns c = can_do
