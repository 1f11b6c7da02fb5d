use Rattle.data_laws.proofs.Apartness.{values_stand_apart}
use Rattle.data_laws.proofs.laws.values_stand_apart.Goals as goal

pub returns : goal.returns
returns c = values_stand_apart
