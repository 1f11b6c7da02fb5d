use Rattle.std.proofs.Common.{◌∙◌, ap, sym, subst, arith}
use Rattle.std.proofs.lemmas.Bool.Decides.{nat_tests}
use Rattle.block_store.specs.BlocksLends.{words_at}
use Rattle.dom_laws.specs.Lattice.{IsElement}
use Rattle.dom_laws.specs.Flow.{IsNode}
use Rattle.widen_solver.specs.Solving.{IsUnderWay}
use Rattle.widen_solver.specs.RowsHeld.{RowsHeld, shown_rows}
use Rattle.widen_solver.proofs.ShownRows.{some_of}
use Rattle.widen_solver.proofs.OneEdge.{takes_edge_held, transferred_element}
use Rattle.widen_solver.proofs.iteration.take_edge.Goals as goal

pub arrive-grew-requires-clause-node : goal.arrive-grew-requires-clause-node
arrive-grew-requires-clause-node g c =
    let system = c.args.system.now in
    subst (λ n. IsNode (g.S.System.flow system) n) (sym c.target-to.ensures) ((g.met.S.System.flows system).target_node c.args.edge c.requires.edge)

pub arrive-grew-requires-clause-rows : goal.arrive-grew-requires-clause-rows
arrive-grew-requires-clause-rows g c =
    let system = c.args.system.now in
    subst (λ rows. IsUnderWay (g.S.Domain.lattice system) (g.S.System.flow system) rows) (sym (ap shown_rows c.post_edge.ensures.posted)) c.requires.rows

pub arrive-grew-requires-clause-ready : goal.arrive-grew-requires-clause-ready
arrive-grew-requires-clause-ready g c = record {
  words = ap (λ (h : RowsHeld). h.words) c.post_edge.ensures.posted ∙ c.requires.ready.words;
  transfer = some_of _ _ (ap (λ (h : RowsHeld). h.transfer) c.post_edge.ensures.posted);
}

pub arrive-grew-requires-clause-more : goal.arrive-grew-requires-clause-more
arrive-grew-requires-clause-more g c =
    let system = c.args.system.now in let l = g.S.Domain.lattice system in let f = g.S.System.flow system in
    subst (λ r. IsElement l r) (sym (ap (λ (h : RowsHeld). words_at h.transfer) c.post_edge.ensures.posted)) (transferred_element l f (g.met.S.System.flows system) c.args.edge c.requires.edge c.args.rows.now c.requires.rows)

pub returns-then-grew-clause-taken : goal.returns-then-grew-clause-taken
returns-then-grew-clause-taken g c =
    let system = c.args.system.now in
    let grew = c.if-grew.true in
    (takes_edge_held (g.S.Domain.lattice system) (g.S.System.flow system) (g.met.S.Domain.ordered system) (g.met.S.System.flows system) c.args.edge c.target-to.result c.requires.edge c.target-to.ensures c.args.rows.now c.post_edge.new.rows c.arrive-grew.new.rows c.requires.rows c.requires.ready c.post_edge.ensures.posted c.arrive-grew.result _ c.arrive-grew.ensures
    (λ tells. (grew, grind (arith, nat_tests, tells, c.source-from.ensures)))
    (λ quiet back. absurd (grind (arith, nat_tests, quiet, back, c.source-from.ensures)))).taken

pub returns-else-grew-clause-taken : goal.returns-else-grew-clause-taken
returns-else-grew-clause-taken g c =
    let system = c.args.system.now in
    let same = c.if-grew.false in
    (takes_edge_held (g.S.Domain.lattice system) (g.S.System.flow system) (g.met.S.Domain.ordered system) (g.met.S.System.flows system) c.args.edge c.target-to.result c.requires.edge c.target-to.ensures c.args.rows.now c.post_edge.new.rows c.arrive-grew.new.rows c.requires.rows c.requires.ready c.post_edge.ensures.posted c.arrive-grew.result _ c.arrive-grew.ensures
    (λ tells. absurd (cc))
    (λ quiet back. quiet)).taken

pub returns-then-grew-clause-ready : goal.returns-then-grew-clause-ready
returns-then-grew-clause-ready g c = record {
  words = c.arrive-grew.ensures.words ∙ ap (λ (h : RowsHeld). h.words) c.post_edge.ensures.posted ∙ c.requires.ready.words;
  transfer = some_of _ _ (c.arrive-grew.ensures.transfer ∙ ap (λ (h : RowsHeld). h.transfer) c.post_edge.ensures.posted);
}

pub returns-else-grew-clause-ready : goal.returns-else-grew-clause-ready
returns-else-grew-clause-ready g c = record {
  words = c.arrive-grew.ensures.words ∙ ap (λ (h : RowsHeld). h.words) c.post_edge.ensures.posted ∙ c.requires.ready.words;
  transfer = some_of _ _ (c.arrive-grew.ensures.transfer ∙ ap (λ (h : RowsHeld). h.transfer) c.post_edge.ensures.posted);
}
