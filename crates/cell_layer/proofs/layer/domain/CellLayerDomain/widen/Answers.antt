use Rattle.cob_program.specs.ActView.{plain_program}
use Rattle.interval_domain.specs.Rows.{lists_of}
use Rattle.interval_domain.proofs.Rows.{element_is_within}
use Rattle.cell_steps.specs.OwnRanges.{owns}
use Rattle.cell_layer.specs.LayerLaws.{ends_of}
use Rattle.cell_layer.proofs.layer.domain.CellLayerDomain.widen.Goals as goal

pub widen-requires-clause-within : goal.widen-requires-clause-within
widen-requires-clause-within c =
    let s = c.args.self.now in
    let own = owns (plain_program s.program.now) in
    let lists = lists_of s.thresholds.now in
    element_is_within own lists c.args.b.now (ends_of own lists s.ends) c.requires.b
