use Rattle.std.proofs.Common.{◌∙◌}
use Rattle.cob_program.specs.SumView.{plain_sum}
use Rattle.cob_calc.specs.Contents.{bound_at}
use Rattle.cell_steps.specs.Stores.{range_at}
use Rattle.cell_layer.specs.ShortRanges.{short_range_at}
use Rattle.cell_layer.proofs.ShortBounds.{bounded}
use Rattle.cell_layer.proofs.ShortAnswers.{short_is}
use Rattle.cell_layer.proofs.SumsAgree.{sum_same}
use Rattle.diff_layer.specs.Views.{program_of, known_in}
use Rattle.diff_layer.proofs.forms.sides.range_of_sum.Goals as goal

pub sum_range-requires-clause-bounded : goal.sum_range-requires-clause-bounded
sum_range-requires-clause-bounded c = bounded (program_of c.args.items.now) (known_in c.args.items.now) c.requires.fits

pub returns : goal.returns
returns c =
    let p = program_of c.args.items.now in
    let cells = known_in c.args.items.now in
    c.sum_range.ensures.value
    ∙ sum_same (short_range_at p cells) (range_at p cells) (bound_at p.layout) (short_is p cells) (plain_sum c.args.sum.now) c.requires.small
