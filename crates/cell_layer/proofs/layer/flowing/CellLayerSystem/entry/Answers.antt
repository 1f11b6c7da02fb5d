use Rattle.std.proofs.Common.{◌∙◌, length, sym, ap}
use Rattle.cob_program.specs.ActView.{plain_program}
use Rattle.interval_domain.specs.Rows.{lists_of}
use Rattle.cell_layer.specs.LayerLaws.{flows_by}
use Rattle.cell_layer.proofs.layer.flowing.CellLayerSystem.entry.Goals as goal

pub copy_from_slice-requires : goal.copy_from_slice-requires
copy_from_slice-requires c =
    let s = c.args.self.now in
    let flows = flows_by (plain_program s.program.now) s.graph.now s.works (lists_of s.thresholds.now) s.held in
    c.requires ∙ sym (ap length (c.as_slice.ensures.value ∙ s.begun) ∙ flows.entry_element.width)
