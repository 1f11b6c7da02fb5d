use Rattle.dom_laws.proofs.Soundness.{no_fault}
use Rattle.dom_laws.proofs.laws.clears_no_fault.Goals as goal

pub returns : goal.returns
returns g c =
    let layer = c.args.layer.now in
    no_fault (g.L.Domain.lattice layer) (g.L.System.flow layer) (g.L.Layer.meaning layer) (g.R.Rows.row_at c.args.rows.now) (g.met.L.System.flows layer) (g.met.L.Layer.means layer) c.requires.inductive c.requires.granted
