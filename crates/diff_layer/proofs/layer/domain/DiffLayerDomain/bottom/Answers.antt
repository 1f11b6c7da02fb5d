use Rattle.std.proofs.Common.{◌≡◌, ◌∙◌, sym, ap}
use Rattle.cob_program.specs.ActView.{plain_program}
use Rattle.diff_bounds.specs.PackRows.{matrices_beside, lists_of}
use Rattle.pack_laws.specs.Layer.{sizes_of}
use Rattle.pack_laws.specs.Packs.{packs_of}
use Rattle.diff_layer.specs.LayerLaws.{its_packs}
use Rattle.diff_layer.proofs.Sizes.{small_in}
use Rattle.diff_layer.proofs.layer.domain.DiffLayerDomain.bottom.Goals as goal

pub set_least-requires-clause-small : goal.set_least-requires-clause-small
set_least-requires-clause-small g c =
    let s = c.args.self.now in
    let packs = packs_of (plain_program s.program.now) s.packs.now in
    let same : c.as_slice.result.now ≡ sizes_of packs = c.as_slice.ensures.value ∙ s.sized in
    let its = its_packs (plain_program s.program.now) s.graph.now s.works s.held s.packs.now s.cells s.thresholds.now s.listed in
    small_in c.as_slice.result.now packs same its.few

pub set_least-requires-clause-width : goal.set_least-requires-clause-width
set_least-requires-clause-width g c =
    let s = c.args.self.now in
    let packs = packs_of (plain_program s.program.now) s.packs.now in
    let same : c.as_slice.result.now ≡ sizes_of packs = c.as_slice.ensures.value ∙ s.sized in
    c.requires ∙ ap (λ ns. (matrices_beside ns (lists_of s.thresholds.now)).width) (sym same)

pub returns : goal.returns
returns g c =
    let s = c.args.self.now in
    let packs = packs_of (plain_program s.program.now) s.packs.now in
    let same : c.as_slice.result.now ≡ sizes_of packs = c.as_slice.ensures.value ∙ s.sized in
    c.set_least.ensures ∙ ap (λ ns. (matrices_beside ns (lists_of s.thresholds.now)).least) same
