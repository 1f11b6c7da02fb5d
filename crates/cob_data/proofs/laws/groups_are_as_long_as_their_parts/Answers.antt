use Rattle.cob_data.proofs.PartLemmas.{are_as_long}
use Rattle.cob_data.proofs.laws.groups_are_as_long_as_their_parts.Goals as goal

pub returns : goal.returns
returns c = are_as_long
