use Rattle.graph_runs.proofs.Clearing.{cleared_is_not_met, clear_is_faultless}
use Rattle.graph_runs.proofs.laws.clear_programs_are_faultless.Goals as goal

pub returns-clause-cleared : goal.returns-clause-cleared
returns-clause-cleared g c =
    let layer = c.args.layer.now in
    λ p h of. cleared_is_not_met p h (g.L.Domain.lattice layer) (g.L.System.flow layer) (g.L.Layer.meaning layer)
    (g.R.Rows.row_at c.args.rows.now) of (g.met.L.System.flows layer) (g.met.L.Layer.means layer)
    c.requires.inductive c.requires.granted

pub returns-clause-clear : goal.returns-clause-clear
returns-clause-clear g c =
    let layer = c.args.layer.now in
    λ p h of. clear_is_faultless p h (g.L.Domain.lattice layer) (g.L.System.flow layer) (g.L.Layer.meaning layer)
    (g.R.Rows.row_at c.args.rows.now) of (g.met.L.System.flows layer) (g.met.L.Layer.means layer)
    c.requires.inductive c.requires.granted
