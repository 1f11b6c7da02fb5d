use Rattle.cob_calc.specs.Contents.{bound_at}
use Rattle.sum_ranges.proofs.Rooms.{item_small}
use Rattle.cell_steps.specs.Stores.{range_at}
use Rattle.cell_layer.proofs.RangeBounds.{ranges_are_bounded}
use Rattle.diff_layer.specs.Views.{program_of, known_in}
use Rattle.diff_layer.proofs.forms.amounts.own_range.Goals as goal

pub returns-clause-small : goal.returns-clause-small
returns-clause-small c =
    let p = program_of c.args.items.now in
    let cells = known_in c.args.items.now in
    item_small (range_at p cells) (bound_at p.layout) c.args.place _ (ranges_are_bounded p cells c.requires.fits) c.requires.own c.item_range.ensures
