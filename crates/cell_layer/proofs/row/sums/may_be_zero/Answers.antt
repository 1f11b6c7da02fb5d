use Rattle.std.proofs.Common.{sym, ap, ◌∙◌}
use Rattle.cob_program.specs.ActView.{plain_program}
use Rattle.cob_program.specs.Bounds.{is_small_atom}
use Rattle.cob_program.specs.Sum.{group}
use Rattle.cob_program.specs.SumView.{plain_sum, plain_atom}
use Rattle.cob_calc.specs.Contents.{bound_at}
use Rattle.sum_ranges.specs.Vanishing.{may_be_zero}
use Rattle.edge_parts.specs.PartView.{plain_divisor}
use Rattle.interval_domain.specs.Rows.{cells_of}
use Rattle.cell_steps.specs.Stores.{range_at}
use Rattle.cell_layer.proofs.ShortBounds.{bounded}
use Rattle.cell_layer.proofs.ShortAnswers.{zero_is}
use Rattle.cell_layer.proofs.row.sums.may_be_zero.Goals as goal

pub may_be_zero-requires-clause-bounded : goal.may_be_zero-requires-clause-bounded
may_be_zero-requires-clause-bounded c = bounded (plain_program c.args.program.now) (cells_of c.args.row.now) c.requires.fits

pub sum_may_be_zero-requires-clause-bounded : goal.sum_may_be_zero-requires-clause-bounded
sum_may_be_zero-requires-clause-bounded c = bounded (plain_program c.args.program.now) (cells_of c.args.row.now) c.requires.fits

pub returns-in-Inner : goal.returns-in-Inner
returns-in-Inner c =
    let p = plain_program c.args.program.now in
    let cells = cells_of c.args.row.now in
    let is = c.in-Inner.is in
    let small = sym (ap (λ d. is_small_atom (bound_at p.layout) (plain_divisor d)) is) ∙ c.requires.small in
    c.may_be_zero.ensures
    ∙ (zero_is p cells (plain_atom c.in-Inner.atom.now) small ∙ sym (ap (λ d. may_be_zero (range_at p cells) (plain_divisor d)) is))

pub returns-in-Whole : goal.returns-in-Whole
returns-in-Whole c =
    let p = plain_program c.args.program.now in
    let cells = cells_of c.args.row.now in
    let is = c.in-Whole.is in
    let small = sym (ap (λ d. is_small_atom (bound_at p.layout) (plain_divisor d)) is) ∙ c.requires.small in
    c.sum_may_be_zero.ensures
    ∙ (zero_is p cells (group (plain_sum c.in-Whole.sum.now)) small ∙ sym (ap (λ d. may_be_zero (range_at p cells) (plain_divisor d)) is))
