use Rattle.cob_data.proofs.StartLemmas.{are_behind}
use Rattle.cob_data.proofs.laws.parts_follow_each_other.Goals as goal

pub returns : goal.returns
returns c = are_behind
