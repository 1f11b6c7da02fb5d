use Rattle.pack_laws.proofs.Rises.{store_lower}
use Rattle.pack_laws.proofs.laws.stores_rise.Goals as goal

pub returns : goal.returns
returns c = store_lower
