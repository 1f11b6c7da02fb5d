use Rattle.std.proofs.Common.{◌≡◌, ◌∙◌, sym, ap}
use Rattle.std.proofs.lemmas.List.{length-map}
use Rattle.diff_steps.specs.Packs.{size_of}
use Rattle.diff_layer.proofs.Rows.{width_is}
use Rattle.cob_program.specs.ActView.{plain_program}
use Rattle.diff_bounds.specs.PackRows.{width_of, lists_of}
use Rattle.pack_laws.specs.Layer.{sizes_of}
use Rattle.pack_laws.specs.Packs.{packs_of}
use Rattle.diff_layer.specs.LayerLaws.{its_packs}
use Rattle.diff_layer.proofs.Sizes.{small_in}
use Rattle.diff_layer.proofs.layer.domain.DiffLayerDomain.words.Goals as goal

pub width_of-requires-clause-small : goal.width_of-requires-clause-small
width_of-requires-clause-small g c =
    let s = c.args.self.now in
    let packs = packs_of (plain_program s.program.now) s.packs.now in
    let same : c.as_slice.result.now ≡ sizes_of packs = c.as_slice.ensures.value ∙ s.sized in
    let its = its_packs (plain_program s.program.now) s.graph.now s.works s.held s.packs.now s.cells s.thresholds.now s.listed in
    small_in c.as_slice.result.now packs same its.few

pub returns : goal.returns
returns g c =
    let s = c.args.self.now in
    let packs = packs_of (plain_program s.program.now) s.packs.now in
    let same : c.as_slice.result.now ≡ sizes_of packs = c.as_slice.ensures.value ∙ s.sized in
    let its = its_packs (plain_program s.program.now) s.graph.now s.works s.held s.packs.now s.cells s.thresholds.now s.listed in
    c.width_of.ensures.value ∙ ap width_of same
    ∙ sym (width_is (sizes_of packs) (lists_of s.thresholds.now) (its.listed ∙ sym (length-map packs size_of)))
