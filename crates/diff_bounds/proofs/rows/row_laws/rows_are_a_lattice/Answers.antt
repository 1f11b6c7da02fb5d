use Rattle.diff_bounds.proofs.PackRows.{packs_are_a_lattice}
use Rattle.diff_bounds.proofs.rows.row_laws.rows_are_a_lattice.Goals as goal

pub returns : goal.returns
returns c = packs_are_a_lattice
