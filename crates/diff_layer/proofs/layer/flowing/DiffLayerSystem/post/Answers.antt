use Rattle.std.proofs.Common.{◌≡◌, ◌≤◌, ◌∙◌, ◌-◌, Some, None, refl, sym, ap, subst, arith}
use Rattle.std.specs.Prelude.{slice_index_or, if◌then◌else◌}
use Rattle.cob_program.specs.ActView.{plain_program}
use Rattle.cob_graph.specs.declared.graph.Edge.{Edge}
use Rattle.dom_laws.specs.Flow.{IsNode}
use Rattle.graph_runs.specs.Places.{no_edge, edge_at}
use Rattle.interval_domain.specs.Rows.{IsRow, element_of}
use Rattle.cell_steps.specs.OwnRanges.{owns}
use Rattle.diff_bounds.specs.PackRows.{matrices_beside, lists_of}
use Rattle.diff_layer.specs.Plans.{plain_plans, ArePlansOf, matrices_for, IsRowFor}
use Rattle.pack_laws.specs.Layer.{sizes_of, diff_flow}
use Rattle.pack_laws.specs.Packs.{packs_of}
use Rattle.diff_layer.specs.Edges.{packs_walked}
use Rattle.cell_layer.proofs.Holding.{edges_too}
use Rattle.diff_layer.specs.LayerLaws.{its_packs, facts_of, flows_by}
use Rattle.diff_layer.proofs.Layers.{are_plans, is_row_for, few_facts, passed, stopped}
use Rattle.diff_layer.proofs.HeldWorks.{plans_too, row_too, walks_too}
use Rattle.diff_layer.proofs.Sizes.{small_in}
use Rattle.diff_layer.proofs.layer.flowing.DiffLayerSystem.post.Goals as goal

pub row-requires-clause-first : goal.row-requires-clause-first
row-requires-clause-first g c =
    let s = c.args.self.now in
    let p = plain_program s.program.now in
    let facts = g.R.Rows.row_at s.facts.now in
    let e = c.args.edge in
    let at : c.edge_with-source.result ≡ edge_at s.graph.now e = c.edge_with-source.ensures ∙ ap (λ xs. slice_index_or xs (e - 1) no_edge) c.get.ensures in
    let flows = flows_by p s.graph.now s.works s.held s.packs.now s.cells s.thresholds.now s.listed facts s.known in
    let node : IsNode (diff_flow p s.graph.now (packs_of p s.packs.now) facts) c.edge_with-source.result.from =
    subst (λ (x : Edge). IsNode (diff_flow p s.graph.now (packs_of p s.packs.now) facts) x.from) (sym at) (flows.source_node e c.requires.edge) in
    node.first

pub row-requires-clause-last : goal.row-requires-clause-last
row-requires-clause-last g c =
    let s = c.args.self.now in
    let p = plain_program s.program.now in
    let facts = g.R.Rows.row_at s.facts.now in
    let e = c.args.edge in
    let at : c.edge_with-source.result ≡ edge_at s.graph.now e = c.edge_with-source.ensures ∙ ap (λ xs. slice_index_or xs (e - 1) no_edge) c.get.ensures in
    let flows = flows_by p s.graph.now s.works s.held s.packs.now s.cells s.thresholds.now s.listed facts s.known in
    let node : IsNode (diff_flow p s.graph.now (packs_of p s.packs.now) facts) c.edge_with-source.result.from =
    subst (λ (x : Edge). IsNode (diff_flow p s.graph.now (packs_of p s.packs.now) facts) x.from) (sym at) (flows.source_node e c.requires.edge) in
    subst (λ n. c.edge_with-source.result.from ≤ n) (sym s.counted) node.last

pub passes_edge-passes-requires-clause-edge : goal.passes_edge-passes-requires-clause-edge
passes_edge-passes-requires-clause-edge g c =
    let s = c.args.self.now in
    let first = c.requires.edge.first in
    let last = c.requires.edge.last in
    edges_too (plain_program s.program.now) s.graph.now s.works s.held (c.args.edge - 1) (omega (arith, first, last))

pub invariant_of-edges : goal.invariant_of-edges
invariant_of-edges g c =
    let s = c.args.self.now in
    let p = plain_program s.program.now in
    record {
      packs = subst (ArePlansOf (plain_program s.works.program.now)) (sym c.as_slice.ensures.value)
          (plans_too p s.graph.now s.works s.held s.plans.items (are_plans p s.graph.now s.works s.held s.packs.now s.cells s.thresholds.now s.listed s.plans.items s.planned s.units));
    }

pub passes_edge-passes-requires-clause-fact : goal.passes_edge-passes-requires-clause-fact
passes_edge-passes-requires-clause-fact g c =
    let s = c.args.self.now in
    let p = plain_program s.program.now in
    let facts = g.R.Rows.row_at s.facts.now in
    let e = c.args.edge in
    let at : c.edge_with-source.result ≡ edge_at s.graph.now e = c.edge_with-source.ensures ∙ ap (λ xs. slice_index_or xs (e - 1) no_edge) c.get.ensures in
    let flows = flows_by p s.graph.now s.works s.held s.packs.now s.cells s.thresholds.now s.listed facts s.known in
    let node : IsNode (diff_flow p s.graph.now (packs_of p s.packs.now) facts) c.edge_with-source.result.from =
    subst (λ (x : Edge). IsNode (diff_flow p s.graph.now (packs_of p s.packs.now) facts) x.from) (sym at) (flows.source_node e c.requires.edge) in
    let is : IsRow (owns p) c.row.result.now =
    subst (IsRow (owns p)) (sym c.row.ensures) (facts_of p s.graph.now facts s.known c.edge_with-source.result.from node.first node.last) in
    row_too p s.graph.now s.works s.held c.row.result.now is

pub passes_edge-passes-requires-clause-words : goal.passes_edge-passes-requires-clause-words
passes_edge-passes-requires-clause-words g c =
    let s = c.args.self.now in
    let p = plain_program s.program.now in
    let facts = g.R.Rows.row_at s.facts.now in
    let e = c.args.edge in
    let at : c.edge_with-source.result ≡ edge_at s.graph.now e = c.edge_with-source.ensures ∙ ap (λ xs. slice_index_or xs (e - 1) no_edge) c.get.ensures in
    let flows = flows_by p s.graph.now s.works s.held s.packs.now s.cells s.thresholds.now s.listed facts s.known in
    let node : IsNode (diff_flow p s.graph.now (packs_of p s.packs.now) facts) c.edge_with-source.result.from =
    subst (λ (x : Edge). IsNode (diff_flow p s.graph.now (packs_of p s.packs.now) facts) x.from) (sym at) (flows.source_node e c.requires.edge) in
    let is : IsRow (owns p) c.row.result.now =
    subst (IsRow (owns p)) (sym c.row.ensures) (facts_of p s.graph.now facts s.known c.edge_with-source.result.from node.first node.last) in
    few_facts p s.graph.now s.works s.held s.packs.now s.cells s.thresholds.now s.listed s.words c.row.result.now is

pub passes_edge-passes-requires-clause-matrices : goal.passes_edge-passes-requires-clause-matrices
passes_edge-passes-requires-clause-matrices g c =
    let s = c.args.self.now in
    let p = plain_program s.program.now in
    let planned : plain_plans c.as_slice.result.now ≡ packs_of p s.packs.now = ap plain_plans c.as_slice.ensures.value ∙ s.planned in
    subst (IsRowFor c.as_slice.result.now) (sym c.copy_from_slice.ensures.after) (is_row_for p s.graph.now s.works s.held s.packs.now s.cells s.thresholds.now s.listed c.as_slice.result.now planned c.args.from.now c.requires.from)

pub set_least-requires-clause-small : goal.set_least-requires-clause-small
set_least-requires-clause-small g c =
    let s = c.args.self.now in
    let p = plain_program s.program.now in
    let same : c.as_slice-then-not-passes.result.now ≡ sizes_of (packs_of p s.packs.now) = c.as_slice-then-not-passes.ensures.value ∙ s.sized in
    small_in c.as_slice-then-not-passes.result.now (packs_of p s.packs.now) same (its_packs p s.graph.now s.works s.held s.packs.now s.cells s.thresholds.now s.listed).few

pub set_least-requires-clause-width : goal.set_least-requires-clause-width
set_least-requires-clause-width g c =
    let s = c.args.self.now in
    let p = plain_program s.program.now in
    let same : c.as_slice-then-not-passes.result.now ≡ sizes_of (packs_of p s.packs.now) = c.as_slice-then-not-passes.ensures.value ∙ s.sized in
    c.passes_edge-passes.auto.out ∙ c.copy_from_slice.ensures.len ∙ c.requires.out ∙ ap (λ ns. (matrices_beside ns (lists_of s.thresholds.now)).width) (sym same)

pub returns-then-not-passes-clause-row : goal.returns-then-not-passes-clause-row
returns-then-not-passes-clause-row g c =
    let s = c.args.self.now in
    let p = plain_program s.program.now in
    let facts = g.R.Rows.row_at s.facts.now in
    let e = c.args.edge in
    let at : c.edge_with-source.result ≡ edge_at s.graph.now e = c.edge_with-source.ensures ∙ ap (λ xs. slice_index_or xs (e - 1) no_edge) c.get.ensures in
    let same : c.as_slice-then-not-passes.result.now ≡ sizes_of (packs_of p s.packs.now) = c.as_slice-then-not-passes.ensures.value ∙ s.sized in
    let planned : plain_plans c.as_slice.result.now ≡ packs_of p s.packs.now = ap plain_plans c.as_slice.ensures.value ∙ s.planned in
    let plans = c.as_slice.result.now in
    let walks : packs_walked p s.graph.now (plain_plans plans) (edge_at s.graph.now e) (element_of c.row.result.now) (matrices_for plans c.args.from.now) ≡ None =
    walks_too p s.graph.now s.works s.held (plain_plans plans) (e - 1) (element_of c.row.result.now) (matrices_for plans c.args.from.now)
    ∙ (ap (λ row. packs_walked (plain_program s.works.program.now) s.works.graph.now (plain_plans plans) (slice_index_or s.works.graph.now.edges (e - 1) no_edge) (element_of c.row.result.now)
    (matrices_for plans row)) (sym c.copy_from_slice.ensures.after)
    ∙ (c.passes_edge-passes.ensures ∙ ap (λ b. if b then Some (matrices_for plans c.passes_edge-passes.new.out) else None) c.if-not-passes.true)) in
    stopped p s.graph.now s.works s.held s.packs.now s.cells s.thresholds.now s.listed plans planned facts e (edge_at s.graph.now e) refl c.row.result.now c.args.from.now c.set_least.new.row (c.row.ensures ∙ ap (λ (x : Edge). facts x.from) at)
    c.as_slice-then-not-passes.result.now same walks c.set_least.ensures

pub returns-else-not-passes-clause-row : goal.returns-else-not-passes-clause-row
returns-else-not-passes-clause-row g c =
    let s = c.args.self.now in
    let p = plain_program s.program.now in
    let facts = g.R.Rows.row_at s.facts.now in
    let e = c.args.edge in
    let at : c.edge_with-source.result ≡ edge_at s.graph.now e = c.edge_with-source.ensures ∙ ap (λ xs. slice_index_or xs (e - 1) no_edge) c.get.ensures in
    let planned : plain_plans c.as_slice.result.now ≡ packs_of p s.packs.now = ap plain_plans c.as_slice.ensures.value ∙ s.planned in
    let plans = c.as_slice.result.now in
    let walks : packs_walked p s.graph.now (plain_plans plans) (edge_at s.graph.now e) (element_of c.row.result.now) (matrices_for plans c.args.from.now) ≡ Some (matrices_for plans c.passes_edge-passes.new.out) =
    walks_too p s.graph.now s.works s.held (plain_plans plans) (e - 1) (element_of c.row.result.now) (matrices_for plans c.args.from.now)
    ∙ (ap (λ row. packs_walked (plain_program s.works.program.now) s.works.graph.now (plain_plans plans) (slice_index_or s.works.graph.now.edges (e - 1) no_edge) (element_of c.row.result.now)
    (matrices_for plans row)) (sym c.copy_from_slice.ensures.after)
    ∙ (c.passes_edge-passes.ensures ∙ ap (λ b. if b then Some (matrices_for plans c.passes_edge-passes.new.out) else None) c.if-not-passes.false)) in
    passed p s.graph.now s.works s.held s.packs.now s.cells s.thresholds.now s.listed plans planned facts e (edge_at s.graph.now e) refl c.row.result.now c.args.from.now c.passes_edge-passes.new.out (c.row.ensures ∙ ap (λ (x : Edge). facts x.from) at)
    (c.passes_edge-passes.auto.out ∙ c.copy_from_slice.ensures.len ∙ c.requires.out) walks
