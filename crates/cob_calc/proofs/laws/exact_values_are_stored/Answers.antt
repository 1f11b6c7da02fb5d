use Rattle.cob_calc.proofs.Agreement.{exact_is_stored}
use Rattle.cob_calc.proofs.laws.exact_values_are_stored.Goals as goal

pub returns : goal.returns
returns c = λ worth s. exact_is_stored worth s
