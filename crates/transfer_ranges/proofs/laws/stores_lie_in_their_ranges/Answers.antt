use Rattle.transfer_ranges.proofs.Fitting.{kept_is_told, stored_in_range}
use Rattle.transfer_ranges.proofs.laws.stores_lie_in_their_ranges.Goals as goal

pub returns-clause-fits : goal.returns-clause-fits
returns-clause-fits c = λ mode f a v bytes h e. stored_in_range mode f a v h bytes e

pub returns-clause-fails : goal.returns-clause-fails
returns-clause-fails c = λ mode f a v h e. kept_is_told mode f a v h e
