use Rattle.cob_well_formed.proofs.Layouts.{layouts_are_well_formed}
use Rattle.cob_well_formed.proofs.laws.layouts_are_well_formed.Goals as goal

pub returns : goal.returns
returns c = layouts_are_well_formed
