use Rattle.std.proofs.Common.{arith}
use Rattle.cob_program.specs.ActView.{plain_program}
use Rattle.widen_solver.specs.Stored.{row_at}
use Rattle.analyse_core.proofs.SolvedRows.{bounds_solved, has_words, rows_fit, steps_fit}
use Rattle.analyse_core.proofs.solving.solve_packs.Goals as goal

pub new-requires-clause-some : goal.new-requires-clause-some
new-requires-clause-some g c =
    let layer = c.args.layer.now in
    has_words (plain_program layer.program.now) layer.graph.now layer.packs.now layer.thresholds.now c.requires.packs
    (g.R.Rows.row_at layer.facts.now) c.words.result c.words.ensures c.requires.some

pub new-requires-clause-size : goal.new-requires-clause-size
new-requires-clause-size g c =
    let layer = c.args.layer.now in
    let nodes = c.nodes.ensures in
    let few = c.requires.nodes in
    rows_fit (plain_program layer.program.now) layer.graph.now layer.packs.now layer.thresholds.now c.requires.packs
    (g.R.Rows.row_at layer.facts.now) c.nodes.result c.words.result c.words.ensures (omega (arith, nodes, few)) c.requires.cells

pub returns-clause-solved : goal.returns-clause-solved
returns-clause-solved g c =
    let layer = c.args.layer.now in
    bounds_solved (plain_program layer.program.now) layer.graph.now layer.packs.now layer.thresholds.now c.requires.packs
    (g.R.Rows.row_at layer.facts.now) (row_at c.solve.new.store.rows) c.solve.ensures.inductive c.solve.ensures.dominated

pub returns-clause-at_most : goal.returns-clause-at_most
returns-clause-at_most g c =
    let layer = c.args.layer.now in
    steps_fit (plain_program layer.program.now) layer.graph.now layer.packs.now layer.thresholds.now c.requires.packs
    (g.R.Rows.row_at layer.facts.now) _ _ c.requires.some c.solve.ensures.at_most
