use Rattle.std.proofs.Common.{[]}
use Rattle.interval_domain.specs.Rows.{lists_of}
use Rattle.layer_driver.proofs.cases.answer_with_cells.Goals as goal

pub part_case-requires-clause-row : goal.part_case-requires-clause-row
part_case-requires-clause-row c = c.requires.row []

pub spared_case-requires-clause-row : goal.spared_case-requires-clause-row
spared_case-requires-clause-row c = c.requires.row []

pub answer_to-requires : goal.answer_to-requires
answer_to-requires c = c.requires.row (lists_of c.args.layer.now.thresholds.now)
