use Rattle.interval_domain.proofs.Rows.{cells_are_a_lattice}
use Rattle.interval_domain.proofs.laws.rows_are_a_lattice.Goals as goal

pub returns : goal.returns
returns c = cells_are_a_lattice
