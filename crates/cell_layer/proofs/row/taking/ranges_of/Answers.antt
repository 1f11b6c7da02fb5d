use Rattle.std.proofs.Common.{ap, ◌∙◌}
use Rattle.cob_program.specs.ActView.{plain_program}
use Rattle.cob_program.specs.SumView.{plain_sum}
use Rattle.cob_calc.specs.Contents.{bound_at}
use Rattle.cob_edge_parts.specs.Parts.{computed}
use Rattle.sum_ranges.specs.Taking.{is_small_taken}
use Rattle.transfer_ranges.specs.Operands.{taken_sum}
use Rattle.interval_domain.specs.Rows.{cells_of}
use Rattle.cell_steps.specs.Stores.{range_at}
use Rattle.cell_layer.proofs.ShortBounds.{bounded}
use Rattle.cell_layer.proofs.ShortAnswers.{operands_are}
use Rattle.cell_layer.proofs.row.taking.ranges_of.Goals as goal

pub operands-requires-clause-bounded : goal.operands-requires-clause-bounded
operands-requires-clause-bounded c = bounded (plain_program c.args.program.now) (cells_of c.args.row.now) c.requires.fits

pub returns : goal.returns
returns c =
    let p = plain_program c.args.program.now in
    let cells = cells_of c.args.row.now in
    let s = plain_sum c.args.sum.now in
    let small = ap (λ b. is_small_taken (bound_at p.layout) b s) c.how_of.ensures ∙ c.requires.small in
    c.operands.ensures
    ∙ (operands_are p cells (computed s c.how_of.result) small ∙ ap (λ b. taken_sum (range_at p cells) b s) c.how_of.ensures)
