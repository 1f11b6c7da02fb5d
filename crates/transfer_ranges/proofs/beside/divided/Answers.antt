use Rattle.std.proofs.Common.{arith, to_z, of_z}
use Rattle.std.specs.Int.{w128}
use Rattle.std.proofs.lemmas.Int.{ints, to_z-of_z, fits_signed_from_abs}
use Rattle.transfer_ranges.proofs.Division.{divided_gives}
use Rattle.transfer_ranges.proofs.beside.divided.Goals as goal

pub returns : goal.returns
returns c k =
    divided_gives c.args.a c.args.by (to_z w128 (of_z w128 c.args.by)) _ _ c.floor.result c.floor-2.result _ _ c.requires.by (omega (arith, ints)) (omega (arith, ints)) (omega (arith, ints))
    c.floor.ensures.low c.floor.ensures.next c.floor-2.ensures.low c.floor-2.ensures.next (omega (arith, ints)) (omega (arith, ints)) k

pub overflow_sub-a : goal.overflow_sub-a
overflow_sub-a c = fits_signed_from_abs w128 _ (omega (arith, ints, c.requires.low))

pub floor-requires-clause-x : goal.floor-requires-clause-x
floor-requires-clause-x c = omega (arith, ints, c.requires.low)

pub floor-requires-clause-by : goal.floor-requires-clause-by
floor-requires-clause-by c = rw (to_z-of_z w128 c.args.by c.ranges.by) c.requires.by

pub overflow_add-result : goal.overflow_add-result
overflow_add-result c = fits_signed_from_abs w128 _ (omega (arith, ints, c.requires.low, c.floor.ensures.size))

pub floor-requires-2-clause-x : goal.floor-requires-2-clause-x
floor-requires-2-clause-x c = omega (arith, ints, c.requires.high)

pub floor-requires-2-clause-by : goal.floor-requires-2-clause-by
floor-requires-2-clause-by c = rw (to_z-of_z w128 c.args.by c.ranges.by) c.requires.by
