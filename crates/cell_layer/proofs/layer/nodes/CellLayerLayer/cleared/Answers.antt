use Rattle.std.proofs.Common.{rules}
use Rattle.cob_program.specs.ActView.{plain_program}
use Rattle.interval_domain.specs.Rows.{cells_of}
use Rattle.cell_layer.proofs.Holding.{fits_too, reached_clears, unreached_clears}
use Rattle.cell_layer.proofs.layer.nodes.CellLayerLayer.cleared.Goals as goal

pub node_cleared-requires-clause-fits : goal.node_cleared-requires-clause-fits
node_cleared-requires-clause-fits c =
    let s = c.args.self.now in
    fits_too (plain_program s.program.now) s.graph.now s.works s.held (cells_of c.args.row.now) (search rules)

pub returns-then-not-is_reached : goal.returns-then-not-is_reached
returns-then-not-is_reached c = λ kind.
    let s = c.args.self.now in
    unreached_clears (plain_program s.program.now) s.graph.now s.works s.held c.args.node c.args.row.now kind c.is_reached.result
    c.if-not-is_reached.true c.is_reached.ensures c.all.result c.all.ensures

pub returns : goal.returns
returns c = λ kind.
    let s = c.args.self.now in
    reached_clears (plain_program s.program.now) s.graph.now s.works s.held c.args.node c.args.row.now kind c.is_reached.result
    c.if-not-is_reached.false c.is_reached.ensures c.node_cleared.result c.node_cleared.ensures
