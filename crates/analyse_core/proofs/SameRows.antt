-- Rows that are the same at each node, and facts that are so beside which matrices flow.
use Rattle.std.proofs.Common.{◌≡◌, ℕ, ◌≤◌, List, length, ℤ, sym, subst, arith}
use Rattle.cob_program.specs.Act.{Program}
use Rattle.cob_graph.specs.declared.graph.Graph.{Graph}
use Rattle.graph_runs.specs.Places.{edge_at}
use Rattle.interval_domain.specs.Rows.{element_of}
use Rattle.dom_laws.specs.Lattice.{Lattice, IsElement}
use Rattle.dom_laws.specs.Flow.{Flow, IsNode, IsEdge, IsHead, IsFlow, IsInductive, IsDominated, HeadsAreFixed}
use Rattle.diff_bounds.specs.PackRows.{matrices_in, row_of}
use Rattle.diff_steps.specs.Packs.{Pack}
use Rattle.pack_laws.specs.Layer.{Facts, diff_flow, packs_post, sizes_of}

-- ---- rows

module _ (l : Lattice) (f : Flow) (laws : IsFlow l f) (rows others : ℕ → List ℤ) (same : (node : ℕ) → IsNode f node → rows node ≡ others node) where
  first_node : IsNode f 1
  first_node = let some = laws.has_node in record { first = omega arith; last = some }

  pub inductive_same : IsInductive l f rows → IsInductive l f others
  inductive_same is = record {
    elements = λ node at. subst (IsElement l) (same node at) (is.elements node at);
    entry = subst (l.Below f.entry) (same 1 first_node) is.entry;
    edges = λ e at.
        let from = same (f.source e) (laws.source_node e at) in
        let to = same (f.target e) (laws.target_node e at) in
        subst (λ r. l.Below (f.post e r) (others (f.target e))) from (subst (l.Below (f.post e (rows (f.source e)))) to (is.edges e at));
  }

  pub dominated_same : IsDominated l f rows → IsDominated l f others
  dominated_same is more inductive heads node at = subst (λ r. l.Below r (more node)) (same node at) (is more inductive heads node at)

-- ---- facts

-- each edge leaves a node
abbrev pub LeavesNodes : Graph → Type 0
LeavesNodes g = (e : ℕ) → 1 ≤ e → e ≤ length g.edges → (1 ≤ (edge_at g e).from) × ((edge_at g e).from ≤ length g.nodes)

abbrev pub AreSame : Graph → Facts → Facts → Type 0
AreSame g facts others = (node : ℕ) → 1 ≤ node → node ≤ length g.nodes → facts node ≡ others node

module _ (p : Program) (g : Graph) (packs : List Pack) (l : Lattice) (leaves : LeavesNodes g) where
  post_same : (facts others : Facts) → AreSame g facts others → (e : ℕ) (row : List ℤ) → IsEdge (diff_flow p g packs facts) e →
      (diff_flow p g packs facts).post e row ≡ (diff_flow p g packs others).post e row
  post_same facts others same e row is =
      let from = leaves e is.first is.last in
      λ i. row_of (packs_post p g packs (edge_at g e) (element_of (same (edge_at g e).from from.0 from.1 i)) (matrices_in (sizes_of packs) row))

  pub facts_inductive : (facts others : Facts) → AreSame g facts others → (rows : ℕ → List ℤ) → IsInductive l (diff_flow p g packs facts) rows →
      IsInductive l (diff_flow p g packs others) rows
  facts_inductive facts others same rows is = record {
    elements = λ node at. is.elements node (record { first = at.first; last = at.last });
    entry = is.entry;
    edges = λ e at.
        let there : IsEdge (diff_flow p g packs facts) e = record { first = at.first; last = at.last } in
        subst (λ r. l.Below r (rows (edge_at g e).to)) (post_same facts others same e (rows (edge_at g e).from) there) (is.edges e there);
  }

  head_there : (facts others : Facts) (node : ℕ) → IsHead (diff_flow p g packs facts) node → IsHead (diff_flow p g packs others) node
  head_there facts others node (e, edge, back, at) = (e, record { first = edge.first; last = edge.last }, back, at)

  pub facts_dominated : (facts others : Facts) → AreSame g facts others → (rows : ℕ → List ℤ) → IsDominated l (diff_flow p g packs facts) rows →
      IsDominated l (diff_flow p g packs others) rows
  facts_dominated facts others same rows is more inductive heads node at =
      let fixed : HeadsAreFixed l (diff_flow p g packs facts) more = λ head is_head. heads head (head_there facts others head is_head) in
      is more (facts_inductive others facts (λ n first last. sym (same n first last)) more inductive) fixed node (record { first = at.first; last = at.last })
