use Rattle.std.proofs.Common.{◌≡◌, ◌∙◌, false, ap, subst}
use Rattle.std.specs.Prelude.{◌↔◌}
use Rattle.cob_program.specs.ActView.{plain_program}
use Rattle.diff_bounds.specs.PackRows.{packs_lattice, lists_of}
use Rattle.pack_laws.specs.Layer.{sizes_of}
use Rattle.pack_laws.specs.Packs.{packs_of}
use Rattle.diff_layer.specs.LayerLaws.{its_packs, thresholds_of}
use Rattle.diff_layer.proofs.Sizes.{small_in, row_in}
use Rattle.diff_layer.proofs.layer.domain.DiffLayerDomain.widen.Goals as goal

pub widen_rows-requires-clause-small : goal.widen_rows-requires-clause-small
widen_rows-requires-clause-small g c =
    let s = c.args.self.now in
    let packs = packs_of (plain_program s.program.now) s.packs.now in
    let same : c.as_slice.result.now ≡ sizes_of packs = c.as_slice.ensures.value ∙ s.sized in
    let its = its_packs (plain_program s.program.now) s.graph.now s.works s.held s.packs.now s.cells s.thresholds.now s.listed in
    small_in c.as_slice.result.now packs same its.few

pub widen_rows-requires-clause-thresholds : goal.widen_rows-requires-clause-thresholds
widen_rows-requires-clause-thresholds g c =
    let s = c.args.self.now in thresholds_of (lists_of s.thresholds.now) s.ends

pub widen_rows-requires-clause-a : goal.widen_rows-requires-clause-a
widen_rows-requires-clause-a g c =
    let s = c.args.self.now in
    let packs = packs_of (plain_program s.program.now) s.packs.now in
    let same : c.as_slice.result.now ≡ sizes_of packs = c.as_slice.ensures.value ∙ s.sized in
    row_in c.as_slice.result.now packs same (lists_of s.thresholds.now) c.args.a.now c.requires.a

pub widen_rows-requires-clause-b : goal.widen_rows-requires-clause-b
widen_rows-requires-clause-b g c =
    let s = c.args.self.now in
    let packs = packs_of (plain_program s.program.now) s.packs.now in
    let same : c.as_slice.result.now ≡ sizes_of packs = c.as_slice.ensures.value ∙ s.sized in
    row_in c.as_slice.result.now packs same (lists_of s.thresholds.now) c.args.b.now c.requires.b

pub returns-clause-row : goal.returns-clause-row
returns-clause-row g c =
    let s = c.args.self.now in
    let packs = packs_of (plain_program s.program.now) s.packs.now in
    let same : c.as_slice.result.now ≡ sizes_of packs = c.as_slice.ensures.value ∙ s.sized in
    c.widen_rows.ensures.row ∙ ap (λ ns. (packs_lattice ns (lists_of s.thresholds.now)).widen c.args.a.now c.args.b.now) same

pub returns-clause-kept : goal.returns-clause-kept
returns-clause-kept g c =
    let s = c.args.self.now in
    let packs = packs_of (plain_program s.program.now) s.packs.now in
    let same : c.as_slice.result.now ≡ sizes_of packs = c.as_slice.ensures.value ∙ s.sized in
    subst (λ ns. (c.widen_rows.result ≡ false) ↔ (packs_lattice ns (lists_of s.thresholds.now)).Below c.args.b.now c.args.a.now) same c.widen_rows.ensures.kept
