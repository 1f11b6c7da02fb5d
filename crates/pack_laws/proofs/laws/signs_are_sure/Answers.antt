use Rattle.pack_laws.proofs.Signs.{known_is_sure}
use Rattle.pack_laws.proofs.laws.signs_are_sure.Goals as goal

pub returns : goal.returns
returns c = known_is_sure
