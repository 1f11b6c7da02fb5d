use Rattle.pack_laws.proofs.Known.{known_stands}
use Rattle.pack_laws.proofs.laws.known_cells_stand.Goals as goal

pub returns : goal.returns
returns c = known_stands
