use Rattle.pack_laws.proofs.Kept.{demanded_stands}
use Rattle.pack_laws.proofs.laws.demanded_values_stay.Goals as goal

pub returns : goal.returns
returns c = demanded_stands
