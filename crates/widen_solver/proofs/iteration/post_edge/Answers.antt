use Rattle.std.proofs.Common.{◌∙◌, length, Some, ap, sym, subst, arith}
use Rattle.dom_laws.specs.Lattice.{IsElement}
use Rattle.widen_solver.specs.RowsHeld.{with_transfer}
use Rattle.widen_solver.proofs.ShownRows.{shown_count, rewritten_transfer}
use Rattle.widen_solver.proofs.OneEdge.{source_row, transferred_element}
use Rattle.widen_solver.proofs.iteration.post_edge.Goals as goal

pub transfer_beside-out-requires-clause-index : goal.transfer_beside-out-requires-clause-index
transfer_beside-out-requires-clause-index g c =
    let source = (g.met.S.System.flows c.args.system.now).source_node c.args.edge c.requires.edge in
    omega (arith, source.first, source.last, c.source-from.ensures, c.requires.rows.nodes, shown_count c.args.rows.now)

pub transfer_beside-out-requires-clause-transfer : goal.transfer_beside-out-requires-clause-transfer
transfer_beside-out-requires-clause-transfer g c = c.requires.ready.transfer

pub post-requires-clause-from : goal.post-requires-clause-from
post-requires-clause-from g c =
    let system = c.args.system.now in let l = g.S.Domain.lattice system in let f = g.S.System.flow system in let flows = g.met.S.System.flows system in
    let row = source_row l f flows c.args.edge c.source-from.result c.requires.edge c.source-from.ensures c.args.rows.now c.requires.rows in
    subst (λ r. IsElement l r) (sym (c.transfer_beside-out.ensures.row ∙ row)) (c.requires.rows.elements (f.source c.args.edge) (flows.source_node c.args.edge c.requires.edge))

pub post-requires-clause-out : goal.post-requires-clause-out
post-requires-clause-out g c = c.transfer_beside-out.ensures.words ∙ c.requires.ready.words

pub returns-clause-posted : goal.returns-clause-posted
returns-clause-posted g c =
    let system = c.args.system.now in let l = g.S.Domain.lattice system in let f = g.S.System.flow system in let flows = g.met.S.System.flows system in
    let row = source_row l f flows c.args.edge c.source-from.result c.requires.edge c.source-from.ensures c.args.rows.now c.requires.rows in
    let out = c.post.ensures.row ∙ ap (f.post c.args.edge) (c.transfer_beside-out.ensures.row ∙ row) in
    let wide = ap length out ∙ (transferred_element l f flows c.args.edge c.requires.edge c.args.rows.now c.requires.rows).width ∙ sym c.requires.ready.words in
    ap (λ r. with_transfer c.args.rows.now (Some r)) (rewritten_transfer c.args.rows.now c.post.new.out wide ∙ out)
