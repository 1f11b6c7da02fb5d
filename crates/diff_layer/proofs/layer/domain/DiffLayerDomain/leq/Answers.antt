use Rattle.std.proofs.Common.{◌≡◌, ◌∙◌, subst}
use Rattle.std.specs.Prelude.{IsTrue, ◌↔◌}
use Rattle.cob_program.specs.ActView.{plain_program}
use Rattle.diff_bounds.specs.PackRows.{matrices_beside, lists_of}
use Rattle.pack_laws.specs.Layer.{sizes_of}
use Rattle.pack_laws.specs.Packs.{packs_of}
use Rattle.diff_layer.specs.LayerLaws.{its_packs}
use Rattle.diff_layer.proofs.Sizes.{small_in, element_in}
use Rattle.diff_layer.proofs.layer.domain.DiffLayerDomain.leq.Goals as goal

pub leq_rows-requires-clause-small : goal.leq_rows-requires-clause-small
leq_rows-requires-clause-small g c =
    let s = c.args.self.now in
    let packs = packs_of (plain_program s.program.now) s.packs.now in
    let same : c.as_slice.result.now ≡ sizes_of packs = c.as_slice.ensures.value ∙ s.sized in
    let its = its_packs (plain_program s.program.now) s.graph.now s.works s.held s.packs.now s.cells s.thresholds.now s.listed in
    small_in c.as_slice.result.now packs same its.few

pub leq_rows-requires-clause-a : goal.leq_rows-requires-clause-a
leq_rows-requires-clause-a g c =
    let s = c.args.self.now in
    let packs = packs_of (plain_program s.program.now) s.packs.now in
    let same : c.as_slice.result.now ≡ sizes_of packs = c.as_slice.ensures.value ∙ s.sized in
    element_in c.as_slice.result.now packs same (lists_of s.thresholds.now) c.args.a.now c.requires.a

pub leq_rows-requires-clause-b : goal.leq_rows-requires-clause-b
leq_rows-requires-clause-b g c =
    let s = c.args.self.now in
    let packs = packs_of (plain_program s.program.now) s.packs.now in
    let same : c.as_slice.result.now ≡ sizes_of packs = c.as_slice.ensures.value ∙ s.sized in
    element_in c.as_slice.result.now packs same (lists_of s.thresholds.now) c.args.b.now c.requires.b

pub returns : goal.returns
returns g c =
    let s = c.args.self.now in
    let packs = packs_of (plain_program s.program.now) s.packs.now in
    let same : c.as_slice.result.now ≡ sizes_of packs = c.as_slice.ensures.value ∙ s.sized in
    subst (λ ns. IsTrue c.leq_rows.result ↔ (matrices_beside ns (lists_of s.thresholds.now)).Below c.args.a.now c.args.b.now) same c.leq_rows.ensures
