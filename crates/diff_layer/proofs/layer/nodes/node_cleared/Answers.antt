use Rattle.std.proofs.Common.{◌≡◌, ◌≤◌, ◌<◌, ◌==◌, ◌∙◌, List, true, false, length, slice_index_or, sym, ap, subst, arith, rules}
use Rattle.std.specs.List.Sorted.{IsNonDecreasingBy}
use Rattle.std.proofs.lemmas.Bool.{eqb-true, eqb-false}
use Rattle.cob_graph.specs.declared.graph.Edge.{Edge}
use Rattle.graph_runs.specs.Places.{no_edge}
use Rattle.diff_layer.specs.GraphWorks.{program_of, graph_of, packs_of, matrices_of, cells_at}
use Rattle.pack_laws.specs.Layer.{edge_clears2}
use Rattle.cell_layer.proofs.OwnEdges.{edges_rise, none_yet, one_more, behind_own, behind_all}
use Rattle.diff_layer.proofs.layer.nodes.node_cleared.Goals as goal

pub edges_before-first-requires : goal.edges_before-first-requires
edges_before-first-requires c =
    let w = c.args.edges.now in
    subst (IsNonDecreasingBy (λ (x : Edge). x.from)) (sym c.get-all.ensures)
    (edges_rise (program_of w) (graph_of w) w.works.now.source)

pub loop-at-init : goal.loop-at-init
loop-at-init c =
    let a = c.args in
    let w = a.edges.now in
    record {
      from_first = omega arith;
      cleared = c.all-cleared.ensures ∙ none_yet (graph_of w) a.node (λ kind x. edge_clears2 (program_of w) (graph_of w) (packs_of w) kind (cells_at a.rows.now) (matrices_of w a.rows.now.matrices.now) x)
          c.edges_before-first.result
          (λ k below. subst (λ (xs : List Edge). (slice_index_or xs k no_edge).from < a.node) c.get-all.ensures
          (c.edges_before-first.ensures.before k no_edge below));
    }

pub edge_cleared-requires-clause-edge : goal.edge_cleared-requires-clause-edge
edge_cleared-requires-clause-edge c =
    let inside : c.loop-at.at < length c.get-all.result.now = search rules in
    subst (λ (xs : List Edge). c.loop-at.at < length xs) c.get-all.ensures inside

pub loop-at-preserved : goal.loop-at-preserved
loop-at-preserved c =
    let a = c.args in
    let w = a.edges.now in
    let g = (graph_of w) in
    let at = c.loop-at.at in
    let inside : at < length c.get-all.result.now = search rules in
    let is = c.edge_at.ensures ∙ ap (λ (xs : List Edge). slice_index_or xs at no_edge) c.get-all.ensures in
    let own : ((slice_index_or g.edges at no_edge).from == a.node) ≡ true =
    ap (λ (x : Edge). x.from == a.node) (sym is) ∙ sym c.leaves.ensures ∙ c.if-not-leaves.false in
    record {
      from_first = omega (arith, c.loop-at.invariant.from_first);
      cleared = c.both-cleared.ensures ∙ one_more g a.node (λ kind x. edge_clears2 (program_of w) g (packs_of w) kind (cells_at a.rows.now) (matrices_of w a.rows.now.matrices.now) x) at
          c.loop-at.cleared c.edge_cleared.result
          (subst (λ (xs : List Edge). at < length xs) c.get-all.ensures inside)
          (eqb-true (slice_index_or g.edges at no_edge).from a.node own) c.loop-at.invariant.cleared c.edge_cleared.ensures;
    }

pub returns-then-not-leaves : goal.returns-then-not-leaves
returns-then-not-leaves c =
    let a = c.args in
    let w = a.edges.now in
    let g = (graph_of w) in
    let at = c.loop-at.at in
    let inside : at < length c.get-all.result.now = search rules in
    let is = c.edge_at.ensures ∙ ap (λ (xs : List Edge). slice_index_or xs at no_edge) c.get-all.ensures in
    let other : ((slice_index_or g.edges at no_edge).from == a.node) ≡ false =
    ap (λ (x : Edge). x.from == a.node) (sym is) ∙ sym c.leaves.ensures ∙ c.if-not-leaves.true in
    behind_own g a.node (λ kind x. edge_clears2 (program_of w) g (packs_of w) kind (cells_at a.rows.now) (matrices_of w a.rows.now.matrices.now) x)
    (edges_rise (program_of w) g w.works.now.source) at c.loop-at.cleared
    (subst (λ (xs : List Edge). at < length xs) c.get-all.ensures inside)
    (subst (λ (xs : List Edge). a.node ≤ (slice_index_or xs at no_edge).from) c.get-all.ensures
    (c.edges_before-first.ensures.behind at no_edge c.loop-at.invariant.from_first inside))
    (eqb-false (slice_index_or g.edges at no_edge).from a.node other) c.loop-at.invariant.cleared

pub returns : goal.returns
returns c =
    let a = c.args in
    let w = a.edges.now in
    let g = (graph_of w) in
    let at = c.loop-at.at in
    let past : length c.get-all.result.now ≤ at = search rules in
    behind_all g a.node (λ kind x. edge_clears2 (program_of w) g (packs_of w) kind (cells_at a.rows.now) (matrices_of w a.rows.now.matrices.now) x) at c.loop-at.cleared
    (subst (λ (xs : List Edge). length xs ≤ at) c.get-all.ensures past) c.loop-at.invariant.cleared
