use Rattle.cob_program.proofs.BoundLaws.{each_in_sum}
use Rattle.cob_program.proofs.laws.intermediates_are_small.Goals as goal

pub returns : goal.returns
returns c = λ worth bound held. each_in_sum worth bound held
