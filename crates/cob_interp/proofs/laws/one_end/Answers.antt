use Rattle.cob_interp.proofs.OneEndLemmas.{one_end_holds}
use Rattle.cob_interp.proofs.laws.one_end.Goals as goal

pub returns : goal.returns
returns c = one_end_holds
