use Rattle.transfer_ranges.proofs.Fitting.{failing_told, fits_in_range, units_hold}
use Rattle.transfer_ranges.proofs.laws.results_lie_in_their_ranges.Goals as goal

pub returns-clause-units : goal.returns-clause-units
returns-clause-units c = units_hold

pub returns-clause-fits : goal.returns-clause-fits
returns-clause-fits c = fits_in_range

pub returns-clause-fails : goal.returns-clause-fails
returns-clause-fails c = failing_told
