use Rattle.cell_laws.proofs.Homes.{cells_are_of_homes, homes_have_own_ranges}
use Rattle.cell_laws.proofs.cell_facts.cells_are_of_homes.Goals as goal

pub returns-clause-cells : goal.returns-clause-cells
returns-clause-cells c = cells_are_of_homes

pub returns-clause-ranges : goal.returns-clause-ranges
returns-clause-ranges c = homes_have_own_ranges
