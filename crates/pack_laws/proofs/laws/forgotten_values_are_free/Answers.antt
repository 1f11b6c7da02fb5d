use Rattle.pack_laws.proofs.Kept.{forgotten_stands}
use Rattle.pack_laws.proofs.laws.forgotten_values_are_free.Goals as goal

pub returns : goal.returns
returns c = forgotten_stands
