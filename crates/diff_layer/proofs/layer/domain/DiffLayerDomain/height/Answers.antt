use Rattle.std.proofs.Common.{◌≡◌, ◌∙◌, ap}
use Rattle.cob_program.specs.ActView.{plain_program}
use Rattle.diff_bounds.specs.PackRows.{packs_lattice, lists_of}
use Rattle.pack_laws.specs.Layer.{sizes_of}
use Rattle.pack_laws.specs.Packs.{packs_of}
use Rattle.diff_layer.specs.LayerLaws.{its_packs, lists_within}
use Rattle.diff_layer.proofs.Sizes.{small_in}
use Rattle.diff_layer.proofs.layer.domain.DiffLayerDomain.height.Goals as goal

pub height_of-requires-clause-small : goal.height_of-requires-clause-small
height_of-requires-clause-small g c =
    let s = c.args.self.now in
    let packs = packs_of (plain_program s.program.now) s.packs.now in
    let same : c.as_slice.result.now ≡ sizes_of packs = c.as_slice.ensures.value ∙ s.sized in
    let its = its_packs (plain_program s.program.now) s.graph.now s.works s.held s.packs.now s.cells s.thresholds.now s.listed in
    small_in c.as_slice.result.now packs same its.few

pub height_of-requires-clause-lists : goal.height_of-requires-clause-lists
height_of-requires-clause-lists g c =
    let s = c.args.self.now in lists_within s.thresholds.now s.lists

pub returns : goal.returns
returns g c =
    let s = c.args.self.now in
    let packs = packs_of (plain_program s.program.now) s.packs.now in
    let same : c.as_slice.result.now ≡ sizes_of packs = c.as_slice.ensures.value ∙ s.sized in
    c.height_of.ensures ∙ ap (λ ns. (packs_lattice ns (lists_of s.thresholds.now)).height) same
