use Rattle.dom_laws.proofs.laws.nothing_is_missed.Goals as goal

pub returns : goal.returns
returns g c =
    let layer = c.args.layer.now in
    let means = g.met.L.Layer.means layer in
    λ others is fixed node kind at clears.
    means.clears_below node (g.R.Rows.row_at c.args.rows.now node) (others node) kind at
    (c.requires.inductive.elements node at) (is.elements node at) (c.requires.dominated others is fixed node at) clears
