use Rattle.pack_laws.proofs.Orders.{ordered_stands}
use Rattle.pack_laws.proofs.laws.ordered_values_stay.Goals as goal

pub returns : goal.returns
returns c = ordered_stands
