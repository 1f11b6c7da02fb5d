use Rattle.cob_program.proofs.BoundLaws.{each_in_stored}
use Rattle.cob_program.proofs.laws.intermediates_of_what_is_stored_are_small.Goals as goal

pub returns : goal.returns
returns c = λ worth bound held. each_in_stored worth bound held
