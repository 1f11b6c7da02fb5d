use Rattle.transfer_ranges.proofs.Narrower.{computed_narrower, exceeds_inside, fitted_inside, may_fail_wider, may_fit_wider, results_inside, units_inside}
use Rattle.transfer_ranges.proofs.Taking.{operands_below}
use Rattle.transfer_ranges.proofs.laws.narrower_operands_give_narrower_results.Goals as goal

pub returns-clause-operands : goal.returns-clause-operands
returns-clause-operands c = operands_below

pub returns-clause-computed : goal.returns-clause-computed
returns-clause-computed c = computed_narrower

pub returns-clause-units : goal.returns-clause-units
returns-clause-units c = units_inside

pub returns-clause-results : goal.returns-clause-results
returns-clause-results c = results_inside

pub returns-clause-fits : goal.returns-clause-fits
returns-clause-fits c = may_fit_wider

pub returns-clause-fails : goal.returns-clause-fails
returns-clause-fails c = may_fail_wider

pub returns-clause-fitted : goal.returns-clause-fitted
returns-clause-fitted c = fitted_inside

pub returns-clause-exceeds : goal.returns-clause-exceeds
returns-clause-exceeds c = exceeds_inside
