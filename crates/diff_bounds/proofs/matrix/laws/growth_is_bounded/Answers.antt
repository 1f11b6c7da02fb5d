use Rattle.dom_laws.proofs.Growth.{grows_within_height}
use Rattle.diff_bounds.specs.Lattice.{matrices}
use Rattle.diff_bounds.proofs.MatrixLattice.{lattice_of_matrices}
use Rattle.diff_bounds.proofs.matrix.laws.growth_is_bounded.Goals as goal

pub returns : goal.returns
returns c = grows_within_height (matrices c.args.size c.args.thresholds.now) (lattice_of_matrices c.args.size c.args.thresholds.now c.requires)
