use Rattle.cob_program.proofs.BoundLaws.{sum_within}
use Rattle.cob_program.proofs.laws.sums_lie_within_their_bounds.Goals as goal

pub returns : goal.returns
returns c = λ worth bound held. sum_within worth bound held
