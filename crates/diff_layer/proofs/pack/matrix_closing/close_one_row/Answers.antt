use Rattle.diff_bounds.proofs.Tight.{tight_of_closure}
use Rattle.diff_layer.proofs.pack.matrix_closing.close_one_row.Goals as goal

pub returns-clause-tight : goal.returns-clause-tight
returns-clause-tight c is = record {
  tight = λ settled at. tight_of_closure c.args.size c.args.m.now c.close_row.new.m (c.close_row.ensures.matrix is) (c.close_row.ensures.sums is) settled at;
}
