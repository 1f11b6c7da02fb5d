use Rattle.cob_well_formed.proofs.Typed.{programs_are_well_formed}
use Rattle.cob_well_formed.proofs.laws.typed_programs_are_well_formed.Goals as goal

pub returns : goal.returns
returns c = programs_are_well_formed
