use Rattle.diff_bounds.proofs.MatrixLattice.{lattice_of_matrices}
use Rattle.diff_bounds.proofs.matrix.laws.matrices_are_a_lattice.Goals as goal

pub returns : goal.returns
returns c = lattice_of_matrices c.args.size c.args.thresholds.now c.requires
