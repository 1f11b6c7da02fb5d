use Rattle.std.proofs.Common.{◌≡◌, ◌∙◌, true, length, sym, ap, subst}
use Rattle.std.specs.Prelude.{IsTrue, ◌↔◌}
use Rattle.cob_tree.specs.Kinds.{has}
use Rattle.diff_bounds.specs.PackRows.{lists_of, matrices_in}
use Rattle.pack_laws.specs.Layer.{sizes_of, diff_lattice, clears_at2}
use Rattle.cob_program.specs.ActView.{plain_program}
use Rattle.interval_domain.specs.Rows.{IsRow, is_reached, cells_of, element_of}
use Rattle.cell_steps.specs.OwnRanges.{owns}
use Rattle.diff_layer.specs.GraphWorks.{lent_words}
use Rattle.diff_layer.specs.Plans.{plain_plans, ArePlansOf}
use Rattle.pack_laws.specs.Packs.{packs_of}
use Rattle.cell_layer.proofs.Holding.{fits_too}
use Rattle.diff_layer.specs.LayerLaws.{facts_of}
use Rattle.diff_layer.proofs.Facts.{is_there, cells_fit}
use Rattle.diff_layer.proofs.HeldWorks.{plans_too, reached_clears, unreached_clears}
use Rattle.diff_layer.proofs.Layers.{are_plans, is_row_for, fact_width}
use Rattle.diff_layer.proofs.layer.nodes.DiffLayerLayer.cleared.Goals as goal

pub invariant_of-edges : goal.invariant_of-edges
invariant_of-edges g c =
    let s = c.args.self.now in
    let p = plain_program s.program.now in
    record {
      packs = subst (ArePlansOf (plain_program s.works.program.now)) (sym c.as_slice.ensures.value)
          (plans_too p s.graph.now s.works s.held s.plans.items (are_plans p s.graph.now s.works s.held s.packs.now s.cells s.thresholds.now s.listed s.plans.items s.planned s.units));
    }

pub node_cleared-requires-clause-reached : goal.node_cleared-requires-clause-reached
node_cleared-requires-clause-reached g c =
    let s = c.args.self.now in
    let p = plain_program s.program.now in
    let is : IsRow (owns p) c.row-fact.result.now =
    subst (IsRow (owns p)) (sym c.row-fact.ensures)
    (facts_of p s.graph.now (g.R.Rows.row_at s.facts.now) s.known c.args.node c.requires.node.first c.requires.node.last) in
    let there : is_reached c.row-fact.result.now ≡ true = sym c.is_reached.ensures ∙ c.if-not-is_reached.false in
    is_there c.row-fact.result.now (owns p) is there

pub node_cleared-requires-clause-fits : goal.node_cleared-requires-clause-fits
node_cleared-requires-clause-fits g c =
    let s = c.args.self.now in
    let p = plain_program s.program.now in
    let is : IsRow (owns p) c.row-fact.result.now =
    subst (IsRow (owns p)) (sym c.row-fact.ensures)
    (facts_of p s.graph.now (g.R.Rows.row_at s.facts.now) s.known c.args.node c.requires.node.first c.requires.node.last) in
    let there : is_reached c.row-fact.result.now ≡ true = sym c.is_reached.ensures ∙ c.if-not-is_reached.false in
    fits_too p s.graph.now s.works s.held (cells_of c.row-fact.result.now) (cells_fit c.row-fact.result.now (owns p) is there)

pub node_cleared-requires-clause-lent : goal.node_cleared-requires-clause-lent
node_cleared-requires-clause-lent g c =
    let s = c.args.self.now in
    let p = plain_program s.program.now in
    let is : IsRow (owns p) c.row-fact.result.now =
    subst (IsRow (owns p)) (sym c.row-fact.ensures)
    (facts_of p s.graph.now (g.R.Rows.row_at s.facts.now) s.known c.args.node c.requires.node.first c.requires.node.last) in
    let wide = fact_width p s.graph.now s.works s.held s.packs.now s.cells s.thresholds.now s.listed c.row-fact.result.now is in
    c.requires.lent ∙ ap (λ n. lent_words n (diff_lattice (packs_of p s.packs.now) (lists_of s.thresholds.now)).width) (sym wide)
    ∙ ap (lent_words (length c.row-fact.result.now)) (sym c.requires.row.width)

pub node_cleared-requires-clause-matrices : goal.node_cleared-requires-clause-matrices
node_cleared-requires-clause-matrices g c =
    let s = c.args.self.now in
    let p = plain_program s.program.now in
    let planned : plain_plans c.as_slice.result.now ≡ packs_of p s.packs.now = ap plain_plans c.as_slice.ensures.value ∙ s.planned in
    is_row_for p s.graph.now s.works s.held s.packs.now s.cells s.thresholds.now s.listed c.as_slice.result.now planned c.args.row.now c.requires.row

pub returns-then-not-is_reached : goal.returns-then-not-is_reached
returns-then-not-is_reached g c = λ kind.
    let s = c.args.self.now in
    let p = plain_program s.program.now in
    let facts = g.R.Rows.row_at s.facts.now in
    let packs = packs_of p s.packs.now in
    subst (λ row. IsTrue (has c.all.result kind) ↔ (clears_at2 p s.graph.now packs c.args.node (element_of row) (matrices_in (sizes_of packs) c.args.row.now) kind ≡ true)) c.row-fact.ensures
    (unreached_clears p s.graph.now s.works s.held packs c.args.node c.row-fact.result.now (matrices_in (sizes_of packs) c.args.row.now) kind c.is_reached.result
    c.if-not-is_reached.true c.is_reached.ensures c.all.result c.all.ensures)

pub returns : goal.returns
returns g c = λ kind.
    let s = c.args.self.now in
    let p = plain_program s.program.now in
    let planned : plain_plans c.as_slice.result.now ≡ packs_of p s.packs.now = ap plain_plans c.as_slice.ensures.value ∙ s.planned in
    let packs = packs_of p s.packs.now in
    let plans = plain_plans c.as_slice.result.now in
    let k = c.node_cleared.result in
    subst (λ row. IsTrue (has k kind) ↔ (clears_at2 p s.graph.now packs c.args.node (element_of row) (matrices_in (sizes_of packs) c.args.row.now) kind ≡ true)) c.row-fact.ensures
    (subst
    (λ qs. IsTrue (has k kind) ↔ (clears_at2 p s.graph.now qs c.args.node (element_of c.row-fact.result.now) (matrices_in (sizes_of qs) c.args.row.now) kind ≡ true)) planned
    (reached_clears p s.graph.now s.works s.held plans c.args.node c.row-fact.result.now (matrices_in (sizes_of plans) c.args.row.now) kind c.is_reached.result
    c.if-not-is_reached.false c.is_reached.ensures k c.node_cleared.ensures))
