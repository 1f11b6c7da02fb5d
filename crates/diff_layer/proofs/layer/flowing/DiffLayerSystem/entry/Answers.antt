use Rattle.std.proofs.Common.{◌∙◌, length, sym, ap}
use Rattle.cob_program.specs.ActView.{plain_program}
use Rattle.diff_layer.specs.LayerLaws.{flows_by}
use Rattle.diff_layer.proofs.layer.flowing.DiffLayerSystem.entry.Goals as goal

pub copy_from_slice-requires : goal.copy_from_slice-requires
copy_from_slice-requires g c =
    let s = c.args.self.now in
    let flows = flows_by (plain_program s.program.now) s.graph.now s.works s.held s.packs.now s.cells s.thresholds.now s.listed (g.R.Rows.row_at s.facts.now) s.known in
    c.requires ∙ sym (ap length (c.as_slice.ensures.value ∙ s.begun) ∙ flows.entry_element.width)
