use Rattle.diff_bounds.proofs.Tight.{tight_of_closure}
use Rattle.diff_layer.proofs.ClosedPacks.{closed_by}
use Rattle.diff_layer.proofs.pack.matrix_closing.close_whole.Goals as goal

pub returns-clause-closed : goal.returns-clause-closed
returns-clause-closed c =
    closed_by c.args.size c.args.m.now c.close.new.m c.close.result c.requires.size c.requires.m c.close.ensures.cycles c.close.ensures.sums c.close.ensures.matrix

pub returns-clause-tight : goal.returns-clause-tight
returns-clause-tight c is = record {
  tight = λ settled at. tight_of_closure c.args.size c.args.m.now c.close.new.m (c.close.ensures.matrix is) (c.close.ensures.sums is) settled at;
}
