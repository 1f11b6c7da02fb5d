use Rattle.cob_data.proofs.SpotLemmas.{has_parts_is}
use Rattle.cob_data.proofs.spots.has_parts.Goals as goal

pub returns : goal.returns
returns c = has_parts_is c.args.below.now c.is_empty.result c.is_empty.ensures
