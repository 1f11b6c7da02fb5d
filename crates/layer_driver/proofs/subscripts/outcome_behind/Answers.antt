use Rattle.interval_domain.specs.Rows.{cells_of}
use Rattle.cell_layer.specs.Kept.{seen}
use Rattle.cell_layer.specs.Works.{program_of, act_of}
use Rattle.cell_layer.proofs.Walking.{can_begin, small_listed}
use Rattle.layer_driver.proofs.subscripts.outcome_behind.Goals as goal

pub walk_parts-requires-clause-small : goal.walk_parts-requires-clause-small
walk_parts-requires-clause-small c = small_listed c.args.work.now (cells_of c.args.row.now) c.requires.can.small

pub walk_parts-requires-clause-can : goal.walk_parts-requires-clause-can
walk_parts-requires-clause-can c =
    let w = c.args.work.now in
    can_begin (program_of w) (act_of w) w.action (seen c.args.row.now c.new-kept.result) (cells_of c.args.row.now)
    (c.new-kept.ensures.begins c.args.row.now) c.requires.can.fits
