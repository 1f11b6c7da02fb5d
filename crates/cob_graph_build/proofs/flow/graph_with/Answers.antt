use Rattle.std.proofs.Common.{◌≡◌, ◌≤◌, ◌<◌, ◌+◌, List, length, refl, subst, ◌∙◌, arith}
use Rattle.cob_runs.specs.declared.action.Cell.{Cell}
use Rattle.cob_program.specs.ActView.{plain_program}
use Rattle.cob_graph.specs.Graphs.{final_of, cells_of}
use Rattle.cob_graph.specs.Limits.{most_told, most_cells, most_nodes}
use Rattle.cob_graph_build.specs.Tables.{main_paras}
use Rattle.cob_graph_build.proofs.Cuts as cuts
use Rattle.cob_graph_build.proofs.FlowLemmas.{all_told, too_many, over_nodes, is_graph, main_laid, in_limits}
use Rattle.cob_graph_build.proofs.flow.graph_with.Goals as goal

pub returns-then-count-gt-MOST_NODES-clause-limit : goal.returns-then-count-gt-MOST_NODES-clause-limit
returns-then-count-gt-MOST_NODES-clause-limit c =
    let p = plain_program c.args.program.now in
    let few : length (cells_of p) ≤ most_cells = subst (λ (cs : List Cell). length cs ≤ most_cells) c.requires.cells c.requires.few in
    let over : most_nodes < c.plus-count.result = omega (arith, c.if-count-gt-MOST_NODES.true) in
    over_nodes p c.plus-count.result _
    (too_many p c.args.table.now c.args.paras c.range_size.result c.plus-count.result c.requires.table
    c.requires.paras c.range_size.ensures c.plus-count.ensures few c.requires.fits over) refl

pub lay_all-requires-clause-nodes : goal.lay_all-requires-clause-nodes
lay_all-requires-clause-nodes c =
    let p = plain_program c.args.program.now in
    cuts.whole most_told c.plus-count.result c.plus-count.result (final_of (main_paras p c.args.table.now)) refl
    (all_told p c.args.table.now c.args.paras c.range_size.result c.plus-count.result c.requires.table
    c.requires.paras c.range_size.ensures c.plus-count.ensures)
    (omega (arith, c.if-count-gt-MOST_NODES.false))

pub returns-clause-graph : goal.returns-clause-graph
returns-clause-graph c =
    is_graph (plain_program c.args.program.now) c.args.table.now c.args.paras _ c.requires.table c.requires.paras
    c.requires.fits
    c.in-Ok.ensures.nodes c.in-Ok.ensures.edges (c.of.ensures ∙ c.requires.cells)

pub returns-clause-within : goal.returns-clause-within
returns-clause-within c =
    let p = plain_program c.args.program.now in
    in_limits p c.args.table.now _ c.plus-count.result
    (main_laid p c.args.table.now c.args.paras c.requires.table c.requires.paras c.requires.fits)
    c.in-Ok.ensures.nodes c.in-Ok.ensures.edges (c.of.ensures ∙ c.requires.cells)
    (all_told p c.args.table.now c.args.paras c.range_size.result c.plus-count.result c.requires.table
    c.requires.paras c.range_size.ensures c.plus-count.ensures)
    c.if-count-gt-MOST_NODES.false (subst (λ (cs : List Cell). length cs ≤ most_cells) c.requires.cells c.requires.few)
