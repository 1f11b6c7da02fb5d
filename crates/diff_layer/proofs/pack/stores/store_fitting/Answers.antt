use Rattle.std.proofs.Common.{length, sym, subst}
use Rattle.diff_bounds.specs.Matrix.{IsMatrix}
use Rattle.pack_laws.proofs.PacksFit.{bottom_is_matrix}
use Rattle.diff_layer.proofs.pack.stores.store_fitting.Goals as goal

pub returns-else-has_operands-clause-matrix : goal.returns-else-has_operands-clause-matrix
returns-else-has_operands-clause-matrix c =
    subst (IsMatrix (length c.args.pack.now.cells.now)) (sym c.set_least_matrix.ensures) (bottom_is_matrix (length c.args.pack.now.cells.now))
