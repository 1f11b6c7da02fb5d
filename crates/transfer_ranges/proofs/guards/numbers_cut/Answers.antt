use Rattle.cob_program.specs.SumView.{plain_sum}
use Rattle.transfer_ranges.proofs.Short.{sides_relate}
use Rattle.transfer_ranges.proofs.guards.numbers_cut.Goals as goal

pub sides_cut-requires : goal.sides_cut-requires
sides_cut-requires g c =
    sides_relate (g.R.Ranges.range_at c.args.ranges.now) (g.R.Ranges.bound_at c.args.ranges.now) (plain_sum c.args.left.now) (plain_sum c.args.right.now) c.in-Some-Some.x c.in-Some-Some.y c.requires.bounded c.requires.small c.in-Some-Some.ensures.value c.in-Some-Some.ensures'.value
