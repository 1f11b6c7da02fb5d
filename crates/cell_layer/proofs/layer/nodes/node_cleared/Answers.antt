use Rattle.std.proofs.Common.{◌≡◌, ◌≤◌, ◌<◌, ◌==◌, ◌∙◌, List, true, false, length, slice_index_or, sym, ap, subst, arith, rules}
use Rattle.std.specs.List.Sorted.{IsNonDecreasingBy}
use Rattle.std.proofs.lemmas.Bool.{eqb-true, eqb-false}
use Rattle.cob_program.specs.ActView.{plain_program}
use Rattle.cob_graph.specs.declared.graph.Edge.{Edge}
use Rattle.interval_domain.specs.Rows.{cells_of}
use Rattle.graph_runs.specs.Places.{no_edge}
use Rattle.cell_laws.specs.Layer.{edge_clears}
use Rattle.cell_layer.proofs.OwnEdges.{edges_rise, none_yet, one_more, behind_own, behind_all}
use Rattle.cell_layer.proofs.layer.nodes.node_cleared.Goals as goal

pub edges_before-first-requires : goal.edges_before-first-requires
edges_before-first-requires c =
    let w = c.args.works.now in
    subst (IsNonDecreasingBy (λ (x : Edge). x.from)) (sym c.get-edges.ensures)
    (edges_rise (plain_program w.program.now) w.graph.now w.source)

pub loop-at-init : goal.loop-at-init
loop-at-init c =
    let a = c.args in
    let w = a.works.now in
    record {
      from_first = omega arith;
      cleared = c.all-cleared.ensures ∙ none_yet w.graph.now a.node (λ kind x. edge_clears (plain_program w.program.now) w.graph.now kind (cells_of a.row.now) x)
          c.edges_before-first.result
          (λ k below. subst (λ (xs : List Edge). (slice_index_or xs k no_edge).from < a.node) c.get-edges.ensures
          (c.edges_before-first.ensures.before k no_edge below));
    }

pub edge_cleared-requires-clause-edge : goal.edge_cleared-requires-clause-edge
edge_cleared-requires-clause-edge c =
    let inside : c.loop-at.at < length c.get-edges.result.now = search rules in
    subst (λ (xs : List Edge). c.loop-at.at < length xs) c.get-edges.ensures inside

pub loop-at-preserved : goal.loop-at-preserved
loop-at-preserved c =
    let a = c.args in
    let w = a.works.now in
    let g = w.graph.now in
    let at = c.loop-at.at in
    let inside : at < length c.get-edges.result.now = search rules in
    let is = c.edge_at.ensures ∙ ap (λ (xs : List Edge). slice_index_or xs at no_edge) c.get-edges.ensures in
    let own : ((slice_index_or g.edges at no_edge).from == a.node) ≡ true =
    ap (λ (x : Edge). x.from == a.node) (sym is) ∙ sym c.leaves.ensures ∙ c.if-not-leaves.false in
    record {
      from_first = omega (arith, c.loop-at.invariant.from_first);
      cleared = c.both-cleared.ensures ∙ one_more g a.node (λ kind x. edge_clears (plain_program w.program.now) g kind (cells_of a.row.now) x) at
          c.loop-at.cleared c.edge_cleared.result
          (subst (λ (xs : List Edge). at < length xs) c.get-edges.ensures inside)
          (eqb-true (slice_index_or g.edges at no_edge).from a.node own) c.loop-at.invariant.cleared c.edge_cleared.ensures;
    }

pub returns-then-not-leaves : goal.returns-then-not-leaves
returns-then-not-leaves c =
    let a = c.args in
    let w = a.works.now in
    let g = w.graph.now in
    let at = c.loop-at.at in
    let inside : at < length c.get-edges.result.now = search rules in
    let is = c.edge_at.ensures ∙ ap (λ (xs : List Edge). slice_index_or xs at no_edge) c.get-edges.ensures in
    let other : ((slice_index_or g.edges at no_edge).from == a.node) ≡ false =
    ap (λ (x : Edge). x.from == a.node) (sym is) ∙ sym c.leaves.ensures ∙ c.if-not-leaves.true in
    behind_own g a.node (λ kind x. edge_clears (plain_program w.program.now) g kind (cells_of a.row.now) x)
    (edges_rise (plain_program w.program.now) g w.source) at c.loop-at.cleared
    (subst (λ (xs : List Edge). at < length xs) c.get-edges.ensures inside)
    (subst (λ (xs : List Edge). a.node ≤ (slice_index_or xs at no_edge).from) c.get-edges.ensures
    (c.edges_before-first.ensures.behind at no_edge c.loop-at.invariant.from_first inside))
    (eqb-false (slice_index_or g.edges at no_edge).from a.node other) c.loop-at.invariant.cleared

pub returns : goal.returns
returns c =
    let a = c.args in
    let w = a.works.now in
    let g = w.graph.now in
    let at = c.loop-at.at in
    let past : length c.get-edges.result.now ≤ at = search rules in
    behind_all g a.node (λ kind x. edge_clears (plain_program w.program.now) g kind (cells_of a.row.now) x) at c.loop-at.cleared
    (subst (λ (xs : List Edge). length xs ≤ at) c.get-edges.ensures past) c.loop-at.invariant.cleared
