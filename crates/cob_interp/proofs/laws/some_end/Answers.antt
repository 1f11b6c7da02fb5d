use Rattle.cob_interp.proofs.SomeEndLemmas.{some_end_holds}
use Rattle.cob_interp.proofs.laws.some_end.Goals as goal

pub returns : goal.returns
returns c = some_end_holds
