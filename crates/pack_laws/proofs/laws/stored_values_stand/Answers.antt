use Rattle.pack_laws.proofs.Stored.{form_stands}
use Rattle.pack_laws.proofs.laws.stored_values_stand.Goals as goal

pub returns : goal.returns
returns c = form_stands
