use Rattle.analyse_core.proofs.Assigning.{certificates_are_assignments}
use Rattle.analyse_core.proofs.laws.certificates_assign.Goals as goal

pub returns : goal.returns
returns c = certificates_are_assignments
